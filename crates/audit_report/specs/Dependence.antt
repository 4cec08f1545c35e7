-- The records that no order puts before another: those that depend on it.
use Rattle.std.specs.Prelude.{List, Contains}
use Rattle.migration_types.specs.Receipts.{Name}
use Rattle.migration_types.specs.Sessions.{Recorded}
use Rattle.audit_model.specs.Mergings.{IsMerging, StandsAfter}

-- in no merging does the first of these records come before the second
abbrev pub NeverBefore : Recorded → Name → Name → Type 0
NeverBefore s name other = (order earlier : List Name) → IsMerging s order → StandsAfter order earlier other → Contains earlier name → ⊥
