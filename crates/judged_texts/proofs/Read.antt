-- What is found of a session that was read is found of whatever session its text spells.
use Rattle.std.proofs.Common.{◌≢◌, ℕ, List, Result, Ok, Err, IfOk, refl}
use Rattle.std.specs.declared.alloc.AllocError.{AllocError}
use Rattle.text_lines.specs.Answer.{Refused as RefusedAs}
use Rattle.text_lines.specs.Text.{IsSpelling, IsUnambiguous}
use Rattle.text_lines.specs.declared.FaultKind.{FaultKind}
use Rattle.text_lines.specs.declared.FaultKind.TheVariants.{Form, Range, Ended, Memory}
use Rattle.migration_types.specs.Sessions.{Recorded}
use Rattle.session_log.specs.Grammar.{SpellsSession}
use Rattle.audit_model.specs.World.{IsSafe}
use Rattle.judged_texts.specs.Checked.{SpellsOneSession, OfSpelled}
use Rattle.judged_texts.proofs.Spelled.{of_spelled}
use Rattle.judged_texts.specs.declared.auditing.TextAudit.{TextAudit}
use Rattle.judged_texts.specs.declared.auditing.TextAudit.TheVariants.{Refused, Reported}
use Rattle.judged_texts.specs.Audited.{IsAudited, HasReport, FindsClean, FindsFault, IsSafeExactlyIf, IsUnsafe}
use Rattle.judged_texts.specs.inner.Read.{IsReportOn}

pub audited_of : (text : List ℕ) (s : Recorded) (r : Result TextAudit AllocError) → IsSpelling SpellsSession s text → IfOk r (IsReportOn s) → IfOk r (IsAudited text)
audited_of text s (Ok (Refused line)) spells is = absurd is
audited_of text s (Ok (Reported report)) spells is = (s, spells, is)
audited_of text s (Err e) spells is = tt

pub one_session_of : (text : List ℕ) (s : Recorded) (r : Result TextAudit AllocError) → IsUnambiguous SpellsSession → IsSpelling SpellsSession s text → IfOk r (λ a. HasReport a → SpellsOneSession text)
one_session_of text s (Ok a) laws spells = λ has. record { recorded = s; session_is = spells; only_one = λ other also. laws.one_value other s text also spells }
one_session_of text s (Err e) laws spells = tt

pub safe_of_text : (text : List ℕ) (s : Recorded) (r : Result TextAudit AllocError) → IsUnambiguous SpellsSession → IsSpelling SpellsSession s text
    → IfOk r (λ a. FindsClean a → IsSafe s) → IfOk r (λ a. FindsClean a → OfSpelled text IsSafe)
safe_of_text text s (Ok a) laws spells h = λ clean. of_spelled text s IsSafe laws spells (h clean)
safe_of_text text s (Err e) laws spells h = tt

pub exactly_of_text : (text : List ℕ) (s : Recorded) (r : Result TextAudit AllocError) → IsUnambiguous SpellsSession → IsSpelling SpellsSession s text
    → IfOk r (λ a. IsSafeExactlyIf (FindsClean a) s) → IfOk r (λ a. OfSpelled text (IsSafeExactlyIf (FindsClean a)))
exactly_of_text text s (Ok a) laws spells h = of_spelled text s (IsSafeExactlyIf (FindsClean a)) laws spells h
exactly_of_text text s (Err e) laws spells h = tt

pub faulty_of_text : (text : List ℕ) (s : Recorded) (r : Result TextAudit AllocError) → IsUnambiguous SpellsSession → IsSpelling SpellsSession s text
    → IfOk r (λ a. FindsFault a → IsUnsafe s) → IfOk r (λ a. FindsFault a → OfSpelled text IsUnsafe)
faulty_of_text text s (Ok a) laws spells h = λ found. of_spelled text s IsUnsafe laws spells (h found)
faulty_of_text text s (Err e) laws spells h = tt

-- of a text that is refused, and not for want of memory, all holds, since it spells nothing
pub of_refused : (text : List ℕ) (line : ℕ) (kind : FaultKind) (Has : Recorded → Type 0) → RefusedAs SpellsSession text line kind → kind ≢ Memory → OfSpelled text Has
of_refused text line Form Has h ne s spells = absurd (h.spells_nothing s spells)
of_refused text line Range Has h ne s spells = absurd (h.spells_nothing s spells)
of_refused text line Ended Has h ne s spells = absurd (h.spells_nothing s spells)
of_refused text line Memory Has h ne s spells = absurd (ne refl)
