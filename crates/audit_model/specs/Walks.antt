-- A merging as a walk of one cursor for each log, as a checker of runs makes it.
use Rattle.std.specs.Prelude.{◌≡◌, suc, ◌<◌, List, [], ◌∷◌, Some, if◌then◌else◌}
use Rattle.migration_types.specs.declared.records.LogName.{LogName}
use Rattle.migration_types.specs.Sessions.{Recorded}
use Rattle.migration_types.specs.Receipts.{Name}
use Rattle.audit_model.specs.Names.{log_length, receipt, same_log}
use Rattle.audit_model.specs.Mergings.{Cursors, at_start}

-- the record with this name is the next of its log, it exists, and the record that it is a receipt for was taken
pub record MayFollow (s : Recorded) (c : Cursors) (name : Name) : Type 0 where
  pub is_next : name.1 ≡ c name.0
  pub is_there : name.1 < log_length s name.0
  pub sent_before : (sent : Name) → receipt s name ≡ Some sent → sent.1 < c sent.0

-- the cursors after one more record of this log
abbrev pub next : Cursors → LogName → Cursors
next c log other = if same_log log other then suc (c other) else c other

-- the cursors after these records were taken
abbrev pub cursors_from : Cursors → List Name → Cursors
cursors_from c [] = c
cursors_from c (name ∷ names) = cursors_from (next c name.0) names

-- each record may follow those before it
abbrev pub Walks : Recorded → Cursors → List Name → Type 0
Walks s c [] = Unit {0}
Walks s c (name ∷ names) = MayFollow s c name × Walks s (next c name.0) names

-- a walk that takes each log to its end
abbrev pub IsWholeWalk : Recorded → List Name → Type 0
IsWholeWalk s order = Walks s at_start order × ((log : LogName) → cursors_from at_start order log ≡ log_length s log)

-- no next record may follow
abbrev pub IsStuck : Recorded → Cursors → Type 0
IsStuck s c = (name : Name) → MayFollow s c name → ⊥

-- the session t has the records of s and one more, of this name, whose receipt names a record of s
pub record IsGrown (s t : Recorded) (name : Name) : Type 0 where
  pub is_next : name.1 ≡ log_length s name.0
  pub lengths : (log : LogName) → log_length t log ≡ (if same_log name.0 log then suc (log_length s log) else log_length s log)
  pub receipts : (other : Name) → other.1 < log_length s other.0 → receipt t other ≡ receipt s other
  pub sent_there : (sent : Name) → receipt t name ≡ Some sent → sent.1 < log_length s sent.0
