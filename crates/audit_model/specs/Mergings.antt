-- The mergings of a session's logs.
use Rattle.std.specs.Prelude.{◌≡◌, ℕ, zero, suc, ◌+◌, List, [], ◌∷◌, ◌++◌, Some, Contains, if◌then◌else◌}
use Rattle.std.specs.List.{range_with_len}
use Rattle.migration_types.specs.declared.records.LogName.{LogName}
use Rattle.migration_types.specs.declared.cert.Run.{Run}
use Rattle.migration_types.specs.Sessions.{Recorded}
use Rattle.migration_types.specs.Receipts.{Name}
use Rattle.audit_model.specs.Names.{log_length, receipt, same_log}

-- the places of one log in a list of names, in the list's order
abbrev pub places_of : LogName → List Name → List ℕ
places_of log [] = []
places_of log (name ∷ names) = if same_log name.0 log then name.1 ∷ places_of log names else places_of log names

-- in this list of names, this name comes right after the earlier ones
abbrev pub StandsAfter : List Name → List Name → Name → Type 0
StandsAfter order earlier name = (later : List Name) × (order ≡ earlier ++ name ∷ later)

-- A list of names with each record exactly once, which keeps the order of each log, and in which each receipt follows
-- the record that it names.
pub record IsMerging (s : Recorded) (order : List Name) : Type 0 where
  pub each_once_in_order : (log : LogName) → places_of log order ≡ range_with_len 0 (log_length s log)
  pub receipts_after : (earlier : List Name) (name sent : Name) → StandsAfter order earlier name → receipt s name ≡ Some sent → Contains earlier sent

-- there is a merging
abbrev pub HasMerging : Recorded → Type 0
HasMerging s = (order : List Name) × IsMerging s order

-- how many records of each log were taken
abbrev pub Cursors : Type 0
Cursors = LogName → ℕ

abbrev pub at_start : Cursors
at_start log = 0

-- the cursors after this many more records of this log
abbrev pub moved : Cursors → LogName → ℕ → Cursors
moved c log count other = if same_log log other then c other + count else c other

-- the names of this many records of a log, from a place on
abbrev pub run_names : LogName → ℕ → ℕ → List Name
run_names log place zero = []
run_names log place (suc count) = (log, place) ∷ run_names log (suc place) count

-- the names that the runs take, one run after the other, each from the next record of its log on
abbrev pub spelled_from : Cursors → List Run → List Name
spelled_from c [] = []
spelled_from c (run ∷ runs) = run_names run.log (c run.log) run.count ++ spelled_from (moved c run.log run.count) runs

abbrev pub spelled : List Run → List Name
spelled runs = spelled_from at_start runs
