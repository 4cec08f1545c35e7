-- What is told of a session that was read is told of its text.
use Rattle.std.proofs.Common.{ℕ, List, IfOk, Result, Ok, Err}
use Rattle.std.specs.declared.alloc.AllocError.{AllocError}
use Rattle.text_lines.specs.Text.{IsSpelling, IsRefusalLine}
use Rattle.migration_types.specs.Sessions.{Recorded}
use Rattle.session_log.specs.Grammar.{SpellsSession}
use Rattle.command_texts.specs.declared.answer.Answer.{Answer}
use Rattle.session_answers.specs.Judged.{IsJudgedTold, Judged, Refused, Reported}
use Rattle.judge_commands.specs.inner.Reported.{SaysRefusal, SaysReport}

module _ (Tells : Judged → List ℕ → Type 0) (text : List ℕ) where
  pub report_told : (s : Recorded) (found : Result Answer AllocError) → IsSpelling SpellsSession s text → IfOk found (SaysReport Tells s) → IfOk found (λ a. IsJudgedTold Tells text a.text.items a.status)
  report_told s (Ok a) spelled says = record { value = Reported s says.report; is_right = (spelled, says.is_report); tells = says.tells; is_status = says.is_status }
  report_told s (Err e) spelled says = tt

  pub refusal_told : (line : ℕ) (found : Result Answer AllocError) → IsRefusalLine SpellsSession text line → IfOk found (SaysRefusal Tells line) → IfOk found (λ a. IsJudgedTold Tells text a.text.items a.status)
  refusal_told line (Ok a) refused says = record { value = Refused line; is_right = refused; tells = says.tells; is_status = says.is_status }
  refusal_told line (Err e) refused says = tt
