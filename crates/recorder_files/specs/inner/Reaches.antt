-- How far a log reaches, given what its records name.
use Rattle.std.specs.Prelude.{ℕ, suc, nat_le, List, [], ◌∷◌, Option, if◌then◌else◌}
use Rattle.migration_types.specs.declared.records.LogName.{LogName}
use Rattle.migration_types.specs.Receipts.{Name}
use Rattle.audit_model.specs.FoundOrder.{is_received}
use Rattle.audit_model.specs.Mergings.{Cursors}
use Rattle.recorder_files.specs.Reaches.{need}

-- how many records come before the first one that names a record outside the front
abbrev pub reach : Cursors → List (Option Name) → ℕ
reach c [] = 0
reach c (named ∷ names) = if is_received c named then suc (reach c names) else 0

-- how many records come before the first one that needs more records of a log than this many
abbrev pub before_need : LogName → ℕ → List (Option Name) → ℕ
before_need other count [] = 0
before_need other count (named ∷ names) = if nat_le (need other named) count then suc (before_need other count names) else 0
