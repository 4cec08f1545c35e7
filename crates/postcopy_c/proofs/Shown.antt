-- What holds of the audit of a session that was read holds of what is shown of the session that a text spells.
use Rattle.std.proofs.Common.{◌≡◌, ◌≢◌, inl, inr, ℕ, List, [], ◌∷◌, length, Result, Ok, Err, IfOk, refl, sym, subst}
use Rattle.std.specs.List.{AllZip, concat}
use Rattle.std.specs.declared.alloc.AllocError.{AllocError}
use Rattle.text_lines.specs.Answer.{Refused as RefusedAs}
use Rattle.text_lines.specs.Text.{IsRefusalLine, IsSpelling}
use Rattle.text_lines.specs.declared.FaultKind.{FaultKind}
use Rattle.text_lines.specs.declared.FaultKind.TheVariants.{Form, Range, Ended, Memory}
use Rattle.migration_types.specs.Sessions.{Recorded}
use Rattle.session_log.specs.Grammar.{SpellsSession}
use Rattle.judged_texts.specs.declared.auditing.TextAudit.{TextAudit}
use Rattle.judged_texts.specs.declared.auditing.TextAudit.TheVariants.{Refused, Reported}
use Rattle.postcopy_c.specs.declared.answer.PostcopyAnswer.{PostcopyAnswer}
use Rattle.postcopy_c.specs.declared.showing.ShownAs.{ShownAs}
use Rattle.postcopy_c.specs.declared.showing.Showing.{Showing}
use Rattle.postcopy_c.specs.declared.texts.Texts.{Texts}
use Rattle.postcopy_c.specs.Answers.{IsPut}
use Rattle.postcopy_c.specs.Numbers.{audited_numbers}
use Rattle.postcopy_c.specs.Questions.{IsToldAll}
use Rattle.postcopy_c.specs.Showings.{AreShown, IsShown, IsShowing, IsShowingOf, IsShownAnswer, IsShownRefusal, IsShownReport, TellsShown}
use Rattle.postcopy_c.specs.Texts.{AreMeasured, texts_of}
use Rattle.postcopy_c.proofs.Joined.{nil_behind}
use Rattle.postcopy_c.proofs.Zipped.{zipped_as}

-- the audit alone
abbrev pub audits : Result Showing AllocError → Result TextAudit AllocError
audits (Ok showing) = Ok showing.audited
audits (Err e) = Err e

pub of_audits : (Holds : TextAudit → Type 0) (found : Result Showing AllocError) → IfOk (audits found) Holds → IfOk found (λ showing. Holds showing.audited)
of_audits Holds (Ok showing) h = h
of_audits Holds (Err e) h = tt

pub to_audits : (Holds : TextAudit → Type 0) (found : Result Showing AllocError) → IfOk found (λ showing. Holds showing.audited) → IfOk (audits found) Holds
to_audits Holds (Ok showing) h = h
to_audits Holds (Err e) h = tt

pub showing_of : (asked : List ShownAs) (text : List ℕ) (s : Recorded) (found : Result Showing AllocError) → IsSpelling SpellsSession s text → IfOk found (IsShowingOf asked s) → IfOk found (IsShowing asked text)
showing_of asked text s (Ok showing) spells is = record {
  are_shown = subst (λ (a : TextAudit). AreShown asked text a (texts_of showing.texts)) (sym is.is_reported)
      (zipped_as (λ shown_as t. IsShownReport shown_as s is.report t) (λ shown_as t. IsShown shown_as text (Reported is.report) t) asked (texts_of showing.texts)
      (λ shown_as t shown. (s, spells, is.is_report, shown)) is.are_shown);
  measured = is.measured;
}
showing_of asked text s (Err e) spells is = tt

refused_at : (text : List ℕ) (line : ℕ) (kind : FaultKind) → RefusedAs SpellsSession text line kind → kind ≢ Memory → IsRefusalLine SpellsSession text line
refused_at text line Form h ne = h
refused_at text line Range h ne = h
refused_at text line Ended h ne = h
refused_at text line Memory h ne = absurd (ne refl)

pub refusal_shown : (asked : List ShownAs) (text : List ℕ) (line told : ℕ) (kind : FaultKind) (held : Texts) → RefusedAs SpellsSession text line kind → (told ≡ line) × (kind ≢ Memory)
    → AllZip (λ shown_as t. IsShownRefusal shown_as told t) asked (texts_of held) → AreMeasured held → IsShowing asked text (record { audited = Refused told; texts = held })
refusal_shown asked text line told kind held refused is shown measured = record {
  are_shown = zipped_as (λ shown_as t. IsShownRefusal shown_as told t) (λ shown_as t. IsShown shown_as text (Refused told) t) asked (texts_of held)
      (λ shown_as t it. (subst (IsRefusalLine SpellsSession text) (sym is.0) (refused_at text line kind refused is.1), it)) shown;
  measured = measured;
}

-- what is told of one thing that is asked
module _ (shown_as : ShownAs) (session before after : List ℕ) (answer : PostcopyAnswer) where
  tells_one : (audited : TextAudit) (texts : List (List ℕ)) → AreShown (shown_as ∷ []) session audited texts → answer ≡ audited_numbers audited (length (concat texts))
      → IsPut (concat texts) before after → TellsShown shown_as session before after answer
  tells_one audited [] shown numbers put = absurd shown
  tells_one audited (text ∷ []) shown numbers put = record {
    audited = audited;
    text = text;
    is_shown = shown.0;
    are_numbers = subst (λ (t : List ℕ). answer ≡ audited_numbers audited (length t)) (nil_behind text) numbers;
    is_put = subst (λ (t : List ℕ). IsPut t before after) (nil_behind text) put;
  }
  tells_one audited (text ∷ more ∷ texts) shown numbers put = absurd shown.1

  pub told_one : (ends_before ends_after : List ℕ) → IsToldAll (shown_as ∷ []) session ends_before ends_after before after answer → IsShownAnswer shown_as session before after answer
  told_one ends_before ends_after (inl t) = inl (tells_one t.audited t.texts t.are_shown t.are_numbers t.is_put)
  told_one ends_before ends_after (inr w) = inr (record { are_numbers = w.are_numbers; stays = w.stays })
