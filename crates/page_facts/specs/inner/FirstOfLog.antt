-- The first reason of a record, and the first fault of a log.
use Rattle.std.specs.Prelude.{◌≡◌, ℕ, ◌<◌, ◌⊎◌, Bool, Option, Some, None, if◌then◌else◌}
use Rattle.migration_types.specs.declared.records.LogName.{LogName}
use Rattle.migration_types.specs.declared.records.LogName.TheVariants.{Source, Pager}
use Rattle.migration_types.specs.Receipts.{Name}
use Rattle.migration_types.specs.Sessions.{Recorded}
use Rattle.audit_model.specs.declared.reasons.PageReason.{PageReason}
use Rattle.audit_model.specs.declared.reasons.PageReason.TheVariants.{Read as WrongRead, Early, Given, Stale, Twice, Altered, Unfit, Over}
use Rattle.audit_model.specs.inner.PageFaultTests.{fault_test}
use Rattle.page_facts.specs.declared.page_fault.PageFault.{PageFault}
use Rattle.page_facts.specs.PageFaults.{IsFaultless, IsLeastReason}

-- this reason if its test holds, and otherwise the rest
abbrev pub or_else : Bool → PageReason → Option PageReason → Option PageReason
or_else test reason rest = if test then Some reason else rest

-- the least reason whose test holds
abbrev pub least_reason : (PageReason → Bool) → Option PageReason
least_reason test =
    or_else (test WrongRead) WrongRead (or_else (test Early) Early (or_else (test Given) Given (or_else (test Stale) Stale
    (or_else (test Twice) Twice (or_else (test Altered) Altered (or_else (test Unfit) Unfit (or_else (test Over) Over None)))))))

-- the least reason for which the record with this name is a fault
abbrev pub reason_at : Recorded → Name → Option PageReason
reason_at s name = least_reason (λ reason. fault_test s reason name)

-- no record of the log before this place has a fault
abbrev pub IsCleanBelow : Recorded → LogName → ℕ → Type 0
IsCleanBelow s log place = (n : ℕ) → n < place → IsFaultless s (log, n)

-- no record of the log has a fault
abbrev pub IsCleanLog : Recorded → LogName → Type 0
IsCleanLog s log = (n : ℕ) → IsFaultless s (log, n)

-- the first fault of a log
pub record IsFirstOfLog (s : Recorded) (log : LogName) (f : PageFault) : Type 0 where
  pub is_log : f.log ≡ log
  pub is_reason : IsLeastReason s (log, f.place) f.reason
  pub is_clean_below : IsCleanBelow s log f.place

-- the first fault of the source's and the pager's logs, or none
abbrev pub AreMovedClean : Recorded → Type 0
AreMovedClean s = IsCleanLog s Source × IsCleanLog s Pager

abbrev pub IsFirstMoved : Recorded → PageFault → Type 0
IsFirstMoved s f = IsFirstOfLog s Source f ⊎ (IsCleanLog s Source × IsFirstOfLog s Pager f)
