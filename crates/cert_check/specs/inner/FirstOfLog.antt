-- The first reason at each record of a log.
use Rattle.std.specs.Prelude.{not, ◌≡◌, ℕ, ◌<◌, Bool, true, Option, Some, None, if◌then◌else◌}
use Rattle.migration_types.specs.declared.records.LogName.{LogName}
use Rattle.migration_types.specs.Sessions.{Recorded, line_of}
use Rattle.audit_model.specs.declared.reasons.ShapeReason.{ShapeReason}
use Rattle.audit_model.specs.declared.reasons.ShapeReason.TheVariants.{Phases, Named, Start, SecondSend, Both}
use Rattle.migration_types.specs.declared.records.SourceRec.{SourceRec}
use Rattle.migration_types.specs.declared.records.SourceRec.TheVariants.{Send}
use Rattle.migration_types.specs.Receipts.{Name}
use Rattle.audit_model.specs.Shape.{is_right, is_send_of, earlier}
use Rattle.cert_check.specs.declared.verdict.ShapeFault.{ShapeFault}
use Rattle.page_store.specs.Tables.{Values, pages_of, values, with_value}

-- the first of the reasons for which a record is not right
abbrev pub first_reason : Bool → Bool → Bool → Bool → Bool → Option ShapeReason
first_reason phases named start second alone =
    if phases then (if named then (if start then (if second then (if alone then None else Some Both) else Some SecondSend) else Some Start) else Some Named) else Some Phases

abbrev pub reason_at : Recorded → Name → Option ShapeReason
reason_at s name = first_reason (is_right s Phases name) (is_right s Named name) (is_right s Start name) (is_right s SecondSend name) (is_right s Both name)

-- no record of the log before this place has a fault
abbrev pub IsRightBelow : Recorded → LogName → ℕ → Type 0
IsRightBelow s log place = (n : ℕ) → n < place → reason_at s (log, n) ≡ None

-- no record of the log has a fault
abbrev pub IsRightLog : Recorded → LogName → Type 0
IsRightLog s log = (n : ℕ) → reason_at s (log, n) ≡ None

-- a misshapen record of the log, with its line and first reason, and no earlier one of the log has a fault
pub record IsFirstOfLog (s : Recorded) (log : LogName) (fault : ShapeFault) : Type 0 where
  pub is_line : fault.line ≡ line_of s (log, fault.place)
  pub is_log : fault.log ≡ log
  pub is_reason : reason_at s (log, fault.place) ≡ Some fault.reason
  pub is_right_below : IsRightBelow s log fault.place

-- marks for pages, which find a second `send`
abbrev pub is_unmarked : (ℕ → Bool) → SourceRec → Bool
is_unmarked marks (Send p content) = not (marks p)
is_unmarked marks _ = true

abbrev pub marked_by : SourceRec → (ℕ → Bool) → ℕ → Bool
marked_by (Send p content) marks = with_value p true marks
marked_by _ marks = marks

-- the pages that were sent before source record n
abbrev pub sent_before : Recorded → ℕ → ℕ → Bool
sent_before s n page = earlier (is_send_of page) s.source n

-- the marks for the pages that were sent before source record n
pub record AreSent (s : Recorded) (n : ℕ) (marks : Values Bool) : Type 0 where
  pub pages_are : pages_of marks ≡ s.geometry.pages
  pub values_are : values marks ≡ sent_before s n
