-- What is known of a recording before it is written or held.
use Rattle.std.specs.Prelude.{◌≡◌, ◌≢◌, ◌<◌, ◌≤◌, ℕ, false, List, Option, Some, None}
use Rattle.std.specs.List.{list_any}
use Rattle.migration_types.specs.declared.records.GuestRec.{GuestRec}
use Rattle.migration_types.specs.declared.records.LogName.{LogName}
use Rattle.migration_types.specs.declared.records.LogName.TheVariants.{Lane}
use Rattle.migration_types.specs.Sessions.{Recorded, log_length}
use Rattle.recorder_files.specs.Fronts.{cursors_of}
use Rattle.recorder_files.specs.Named.{IsBlank, IsNaming}
use Rattle.recorder_files.specs.declared.fronts.Front.{Front}
use Rattle.session_commands.specs.Unresumed.{ends_halted, IsHaltOf}
use Rattle.session_commands.specs.Written.{begins_halted, is_back, is_pull, IsLateRelease}
use Rattle.audit_model.specs.Shape.{is_resume}
use Rattle.session_commands.specs.declared.facts.Facts.{Facts}

-- the first release of the guest behind its resume, if there is one
abbrev pub IsFirstLate : Option ℕ → List GuestRec → Type 0
IsFirstLate None guest = (n : ℕ) → IsLateRelease guest n → ⊥
IsFirstLate (Some first) guest = IsLateRelease guest first × ((n : ℕ) → IsLateRelease guest n → first ≤ n)

-- it is there, and in front of this number
abbrev pub IsBefore : Option ℕ → ℕ → Type 0
IsBefore None count = ⊥
IsBefore (Some first) count = first < count

-- nothing was collected of the records
pub record HasNone (facts : Facts) : Type 0 where
  pub naming : IsBlank facts.naming
  pub halted : facts.begins_halted ≡ false
  pub back : facts.has_back ≡ false
  pub pull : facts.has_pull ≡ false
  pub halt : facts.halt ≡ None
  pub at_last : facts.halts_at_last ≡ false
  pub resume : facts.has_resume ≡ false
  pub late : facts.late ≡ None

-- what was collected of a recording
pub record IsFacts (facts : Facts) (s : Recorded) : Type 0 where
  pub naming : IsNaming facts.naming s
  pub halted : facts.begins_halted ≡ begins_halted s.source
  pub back : facts.has_back ≡ list_any is_back s.source
  pub pull : facts.has_pull ≡ list_any is_pull s.pager
  pub halt : IsHaltOf facts.halt s.guest
  pub at_last : facts.halts_at_last ≡ ends_halted s.guest
  pub resume : facts.has_resume ≡ list_any is_resume s.guest
  pub late : IsFirstLate facts.late s.guest

-- no log has a record behind the front
abbrev pub ReachIn : Recorded → Front → Type 0
ReachIn s front = (log : LogName) → log_length s log ≤ cursors_of front log

-- each log but the lane has a record
abbrev pub SomeIn : (LogName → ℕ) → Type 0
SomeIn count = (log : LogName) → log ≢ Lane → 0 < count log
