-- The results of the search for an order.
use Rattle.std.specs.Prelude.{◌≡◌, ◌<◌, ◌≤◌, List, Some}
use Rattle.migration_types.specs.declared.records.LogName.{LogName}
use Rattle.migration_types.specs.declared.cert.Run.{Run}
use Rattle.migration_types.specs.Certs.{AreRuns}
use Rattle.migration_types.specs.Sessions.{Recorded, line_of, log_length}
use Rattle.audit_model.specs.Mergings.{Cursors, HasMerging, at_start, spelled}
use Rattle.audit_model.specs.Walks.{cursors_from}
use Rattle.audit_model.specs.FoundOrder.{IsFound, IsFoundOrder, IsKnot}
use Rattle.merge_runs.specs.Taken.{cursors_of, first_left}
use Rattle.cert_maker.specs.declared.order.FoundRuns.{FoundRuns}
use Rattle.cert_maker.specs.declared.order.FirstLeft.{FirstLeft}
use Rattle.cert_maker.specs.declared.order.Order.{Order}
use Rattle.cert_maker.specs.declared.order.Order.TheVariants.{Found, Knot}

-- the runs of a found order that takes all records, within the limits of a certificate's runs of the session's version and size
pub record AreFoundRuns (s : Recorded) (runs : List Run) : Type 0 where
  pub is_found : IsFound s (spelled runs)
  pub are_runs : AreRuns s.version s.geometry.size runs

-- the runs of the found order, as far as it goes, within the limits of a certificate's runs of the session's version
-- and size; and the cursors after them
pub record IsFoundFront (s : Recorded) (runs : List Run) (c : Cursors) : Type 0 where
  pub is_found_order : IsFoundOrder s (spelled runs)
  pub are_runs : AreRuns s.version s.geometry.size runs
  pub at : cursors_from at_start (spelled runs) ≡ c
  pub within : (log : LogName) → c log ≤ log_length s log

-- The first record that a knot leaves, with its line; there is no merging. The found order goes as far as it can, and
-- this record is the next of its log after it.
pub record IsTied (s : Recorded) (left : FirstLeft) (found : FoundRuns) : Type 0 where
  pub is_knot : IsKnot s left.line
  pub is_line : left.line ≡ line_of s (left.log, left.place)
  pub is_there : left.place < log_length s left.log
  pub has_no_merging : HasMerging s → ⊥
  pub front : IsFoundFront s found.runs (cursors_of found.taken)
  pub is_first : first_left s (cursors_of found.taken) ≡ Some left.log
  pub is_next : left.place ≡ cursors_of found.taken left.log

-- the result for a session
abbrev pub IsOrderOf : Recorded → Order → Type 0
IsOrderOf s (Found runs) = AreFoundRuns s runs
IsOrderOf s (Knot left found) = IsTied s left found
