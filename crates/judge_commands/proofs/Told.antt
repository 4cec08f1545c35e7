-- A verdict that is told.
use Rattle.std.proofs.Common.{◌≡◌, List, ℕ}
use Rattle.cert_check.specs.declared.verdict.Verdict.{Verdict}
use Rattle.judged_texts.specs.Checked.{IsTextVerdict}
use Rattle.command_texts.specs.declared.answer.Answer.{Answer}
use Rattle.command_texts.specs.Answers.{Says}
use Rattle.judge_commands.specs.Answers.{IsVerdictTold, verdict_status}

-- the verdict that an answer says is the one on the two texts
pub answers : (words : Verdict → List ℕ) (texts : List ℕ × List ℕ) (answer : Answer) (verdict : Verdict) → IsTextVerdict texts.0 texts.1 verdict → Says answer (words verdict) (verdict_status verdict) → IsVerdictTold words texts answer.text.items answer.status
answers words texts answer verdict right says = record { value = verdict; is_right = right; is_text = says.0; is_status = says.1 }
