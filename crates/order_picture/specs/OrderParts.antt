-- The records that runs take, as far as they can be taken.
use Rattle.std.specs.Prelude.{◌≡◌, ℕ, List, Option, Some, None, take}
use Rattle.migration_types.specs.declared.cert.Run.{Run}
use Rattle.migration_types.specs.Receipts.{Name}
use Rattle.migration_types.specs.Sessions.{Recorded}
use Rattle.audit_model.specs.Mergings.{IsMerging, spelled}
use Rattle.merge_runs.specs.BadRuns.{IsFirstBadRun}

-- all of them, if the runs spell a merging, and otherwise those of the runs before the first bad one
abbrev pub IsOrderPart : Recorded → List Run → List Name → Option ℕ → Type 0
IsOrderPart s runs order None = IsMerging s (spelled runs) × (order ≡ spelled runs)
IsOrderPart s runs order (Some place) = IsFirstBadRun s runs place × (order ≡ spelled (take place runs))
