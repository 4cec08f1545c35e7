-- What an answer with status 0 shows.
use Rattle.std.proofs.Common.{◌≡◌, ◌∙◌, ℕ, List, Option, Some, None, Ok, inl, inr, subst, sym}
use Rattle.command_words.specs.declared.requests.VerdictForm.{VerdictForm}
use Rattle.command_words.specs.declared.requests.VerdictForm.TheVariants.{Line, Object}
use Rattle.completeness.specs.declared.lack.Extent.{Extent}
use Rattle.cert_check.specs.declared.verdict.Verdict.{Verdict}
use Rattle.cert_check.specs.declared.verdict.Verdict.TheVariants.{SessionText, CertText, Shape, Pages, Runs, Page, Yes}
use Rattle.judged_texts.specs.Checked.{IsTextVerdict}
use Rattle.command_texts.specs.declared.answer.Fault.{Fault}
use Rattle.command_texts.specs.Told.{Ends}
use Rattle.text_access.specs.Written.{Streams}
use Rattle.migration_types.specs.Sessions.{Recorded}
use Rattle.audit_report.specs.ToldLines.{own}
use Rattle.completeness.specs.declared.lack.Lack.{Lack}
use Rattle.session_answers.specs.Lacks.{TellsLack}
use Rattle.command_texts.specs.Fields.{IsAnswerTold}
use Rattle.command_texts.specs.Reasons.{IsFirstRefused, IsRefusedAt}
use Rattle.session_log.specs.Grammar.{SpellsSession}
use Rattle.cert_text.specs.Grammar.{SpellsCert}
use Rattle.judge_commands.specs.Answers.{IsVerdictTold, verdict_lack, verdict_status, verdict_telling, verdict_text}
use Rattle.judge_commands.specs.Completed.{IsChecked, IsDemanded}
use Rattle.commands.specs.Shown.{Shows}
use Rattle.commands.specs.Told.{IsSettled}
use Rattle.commands.proofs.Settled.{no_fault}

-- the one verdict with the status 0 is yes
yes_of : (session cert : List ℕ) (verdict : Verdict) → IsTextVerdict session cert verdict → 0 ≡ verdict_status verdict → IsTextVerdict session cert Yes
yes_of session cert (SessionText line) is zero = absurd cc
yes_of session cert (CertText line) is zero = absurd cc
yes_of session cert (Shape fault) is zero = absurd cc
yes_of session cert Pages is zero = absurd cc
yes_of session cert (Runs line) is zero = absurd cc
yes_of session cert (Page line) is zero = absurd cc
yes_of session cert Yes is zero = is

yes_told : (words : Verdict → List ℕ) (texts : List ℕ × List ℕ) (text : List ℕ) → IsVerdictTold words texts text 0 → IsTextVerdict texts.0 texts.1 Yes
yes_told words texts text h = yes_of texts.0 texts.1 h.value h.is_right h.is_status

-- what is answered with status 0 where more is asked is answered so without asking
pub without_asking : (complete : Option Extent) (IsLackTold : Recorded → Lack → List ℕ → Type 0) (IsPlain : List ℕ → ℕ → Type 0) (session text : List ℕ) → IsDemanded complete IsLackTold IsPlain session text 0 → IsPlain text 0
without_asking None IsLackTold IsPlain session text h = h
without_asking (Some extent) IsLackTold IsPlain session text (inl h) = h.is_plain
without_asking (Some extent) IsLackTold IsPlain session text (inr h) = let refused : 0 ≡ 1 = h.refused in absurd cc

yes_in : (form : VerdictForm) (complete : Option Extent) (texts : List ℕ × List ℕ) (text : List ℕ) → IsChecked form complete texts text 0 → IsTextVerdict texts.0 texts.1 Yes
yes_in form complete texts text h =
    yes_told (verdict_text form) texts text (without_asking complete (TellsLack own (verdict_lack form)) (IsVerdictTold (verdict_text form) texts) texts.0 text h)

-- the answer may be written with more fields
pub yes_as_told : (form : VerdictForm) (complete : Option Extent) (texts : List ℕ × List ℕ) (text : List ℕ) → IsAnswerTold (verdict_telling form) (IsFirstRefused (IsRefusedAt SpellsSession) (IsRefusedAt SpellsCert)) (IsChecked form complete) texts text 0 → IsTextVerdict texts.0 texts.1 Yes
yes_as_told Line complete texts text h = yes_in Line complete texts text h
yes_as_told Object complete texts text h = yes_in Object complete texts h.answer h.is_answer

-- what ends with status 0 without a fault shows what its answer shows
pub shows : {T : Type 0} (IsFault : Fault → Type 0) (AreTexts : T → Type 0) (IsAnswer : T → List ℕ → ℕ → Type 0) (IsBeside : T → ℕ → Option (List ℕ) → Option (List ℕ) → Type 0) (Holds : T → Type 0) (old new : Streams) (status : ℕ)
    → ((texts : T) (text : List ℕ) → IsAnswer texts text 0 → Holds texts)
    → IsSettled (Ends IsFault AreTexts IsAnswer IsBeside old) new status → status ≡ 0 → Shows AreTexts Holds
shows IsFault AreTexts IsAnswer IsBeside Holds old new status holds (inl h) zero =
    let at = subst (λ (s : ℕ). Ends IsFault AreTexts IsAnswer IsBeside old new (Ok s)) zero h.1 in
    record { texts = at.texts; are_texts = at.are_texts; holds = holds at.texts at.told.text at.told.is_answer }
shows IsFault AreTexts IsAnswer IsBeside Holds old new status holds (inr h) zero = absurd (no_fault h.fault (sym zero ∙ h.is_status))
