-- The first run that is not part of a merging.
use Rattle.std.specs.Prelude.{◌≡◌, ℕ, ◌+◌, ◌<◌, ◌≤◌, List, length, take}
use Rattle.migration_types.specs.declared.cert.Run.{Run}
use Rattle.migration_types.specs.Sessions.{Recorded}
use Rattle.audit_model.specs.Mergings.{at_start, spelled}
use Rattle.audit_model.specs.Walks.{Walks, IsWholeWalk}

-- The runs before this one can be walked, and with it they cannot: it takes a record past its log's end, or a receipt
-- before the record that it names. Or this is the place after the last run: all runs can be walked, and records are
-- left.
pub record IsFirstBadRun (s : Recorded) (runs : List Run) (place : ℕ) : Type 0 where
  pub within : place ≤ length runs
  pub walked : Walks s at_start (spelled (take place runs))
  pub is_bad : place < length runs → Walks s at_start (spelled (take (place + 1) runs)) → ⊥
  pub is_left : place ≡ length runs → IsWholeWalk s (spelled runs) → ⊥
