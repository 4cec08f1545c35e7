-- What of a certificate does not fit a session.
use Rattle.std.proofs.Common.{◌≡◌, ℕ, List, Result, Ok, Err, refl}
use Rattle.std.specs.Prelude.{OnOk}
use Rattle.text_lines.specs.Text.{IsRefusalLine}
use Rattle.session_log.specs.Grammar.{SpellsSession}
use Rattle.cert_text.specs.Grammar.{SpellsCert}
use Rattle.cert_check.specs.declared.verdict.Verdict.{Verdict}
use Rattle.cert_check.specs.declared.verdict.Verdict.TheVariants.{SessionText, CertText, Shape, Pages, Runs, Page, Yes}
use Rattle.judged_texts.specs.Checked.{IsTextVerdict}
use Rattle.judge_commands.specs.Misfits.{AddsMisfit}
use Rattle.judge_commands.specs.Answers.{AddsMisfitOf}
use Rattle.judged_texts.specs.declared.replaying.Outcome.{Outcome}
use Rattle.judged_texts.specs.Replayed.{IsOutcome}
use Rattle.judge_commands.specs.Replayed.{AddsReason, AddsReasonOf}

module _ (texts : List ℕ × List ℕ) (name out : List ℕ) (line : ℕ) where
  -- nothing is told of a session that is refused
  pub no_session : IsRefusalLine SpellsSession texts.0 line → (verdict : Verdict) → IsTextVerdict texts.0 texts.1 verdict → AddsMisfit name verdict out out
  no_session refused (SessionText n) is = refl
  no_session refused (CertText n) is = refl
  no_session refused (Shape fault) is = refl
  no_session refused Pages is = absurd (refused.spells_nothing is.recorded is.session_is)
  no_session refused (Runs n) is = absurd (refused.spells_nothing is.recorded is.session_is)
  no_session refused (Page n) is = absurd (refused.spells_nothing is.recorded is.session_is)
  no_session refused Yes is = refl

  -- nor of a certificate that is
  pub no_cert : IsRefusalLine SpellsCert texts.1 line → (verdict : Verdict) → IsTextVerdict texts.0 texts.1 verdict → AddsMisfit name verdict out out
  no_cert refused (SessionText n) is = refl
  no_cert refused (CertText n) is = refl
  no_cert refused (Shape fault) is = refl
  no_cert refused Pages is = absurd (refused.spells_nothing is.certified is.cert_is)
  no_cert refused (Runs n) is = absurd (refused.spells_nothing is.certified is.cert_is)
  no_cert refused (Page n) is = absurd (refused.spells_nothing is.certified is.cert_is)
  no_cert refused Yes is = refl

-- what was added is by the verdict
pub misfit_added : {E : Type 0} (texts : List ℕ × List ℕ) (name old new : List ℕ) (verdict : Verdict) (done : Result (Unit {0}) E) → IsTextVerdict texts.0 texts.1 verdict → OnOk done (AddsMisfit name verdict old new) → OnOk done (AddsMisfitOf texts name old new)
misfit_added texts name old new verdict (Ok v) is h = (verdict, is, h)
misfit_added texts name old new verdict (Err e) is h = tt

-- why runs are no merging was added by the outcome
pub reason_added : {E : Type 0} (texts : List ℕ × List ℕ) (name old new : List ℕ) (outcome : Outcome) (done : Result (Unit {0}) E) → IsOutcome texts.0 texts.1 outcome → OnOk done (AddsReason name outcome old new) → OnOk done (AddsReasonOf texts name old new)
reason_added texts name old new outcome (Ok v) is h = (outcome, is, h)
reason_added texts name old new outcome (Err e) is h = tt
