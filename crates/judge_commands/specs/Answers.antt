-- The answers of the commands on a session, and on a session with its certificate.
use Rattle.std.specs.Prelude.{ℕ, List, [], ◌∷◌, codes}
use Rattle.text_lines.specs.Text.{ended}
use Rattle.judged_texts.specs.Checked.{IsTextVerdict}
use Rattle.cert_check.specs.declared.verdict.Verdict.{Verdict}
use Rattle.cert_check.specs.declared.verdict.Verdict.TheVariants.{SessionText, CertText, Shape, Pages, Runs, Page, Yes}
use Rattle.audit_report.specs.ReportText.{shape_line}
use Rattle.session_answers.specs.JsonText.{verdict_object}
use Rattle.judged_texts.specs.declared.audit_part.AuditPart.{AuditPart}
use Rattle.judge_commands.specs.Misfits.{AddsMisfit}
use Rattle.command_texts.specs.Answers.{IsAnswer, numbered}
use Rattle.command_texts.specs.declared.why.Telling.{Telling}
use Rattle.command_texts.specs.declared.why.Telling.TheVariants.{Short, Full, Fields}
use Rattle.command_words.specs.declared.requests.VerdictForm.{VerdictForm}
use Rattle.command_words.specs.declared.requests.VerdictForm.TheVariants.{Line, Object}
use Rattle.session_answers.specs.Judged.{IsJudgedTold}
use Rattle.session_answers.specs.Forms.{TellsWanted}
use Rattle.session_answers.specs.declared.forms.AnswerForm.{AnswerForm}
use Rattle.session_answers.specs.declared.forms.Story.{Story}
use Rattle.session_answers.specs.Lacks.{lack_form, story_lack}
use Rattle.session_answers.specs.declared.forms.LackForm.{LackForm}
use Rattle.session_answers.specs.declared.forms.LackForm.TheVariants as lack

-- the line of a verdict
abbrev pub verdict_line : Verdict → List ℕ
verdict_line (SessionText n) = numbered (codes "session-text line ") n
verdict_line (CertText n) = numbered (codes "certificate-text line ") n
verdict_line (Shape fault) = ended (shape_line fault ∷ [])
verdict_line Pages = codes "pages\n"
verdict_line (Runs n) = numbered (codes "runs line ") n
verdict_line (Page n) = numbered (codes "page line ") n
verdict_line Yes = codes "yes\n"

-- 0 for yes, and 1 for any other verdict
abbrev pub verdict_status : Verdict → ℕ
verdict_status Yes = 0
verdict_status other = 1

-- the verdict on two texts, in this form
abbrev pub IsVerdictTold : (Verdict → List ℕ) → List ℕ × List ℕ → List ℕ → ℕ → Type 0
IsVerdictTold words texts = IsAnswer (IsTextVerdict texts.0 texts.1) words verdict_status

-- `check`: the verdict on the two texts
abbrev pub IsVerdictAnswer : List ℕ → List ℕ → List ℕ → ℕ → Type 0
IsVerdictAnswer session cert = IsVerdictTold verdict_line (session, cert)

-- the text of a verdict in this form, and the form of a line that says what is missing from a session
abbrev pub verdict_text : VerdictForm → Verdict → List ℕ
verdict_text Line = verdict_line
verdict_text Object = verdict_object

abbrev pub verdict_lack : VerdictForm → LackForm
verdict_lack Line = lack.Line
verdict_lack Object = lack.Object

-- beside the answer of `check`: the part of the certificate that does not fit the session, according to the verdict on
-- the two texts
abbrev pub AddsMisfitOf : List ℕ × List ℕ → List ℕ → List ℕ → List ℕ → Type 0
AddsMisfitOf texts name before after = (verdict : Verdict) × IsTextVerdict texts.0 texts.1 verdict × AddsMisfit name verdict before after

-- `audit` and `certify`: the part of the report on the session that is asked for
abbrev pub IsAuditAnswer : AuditPart → List ℕ → List ℕ → ℕ → Type 0
IsAuditAnswer wanted = IsJudgedTold (TellsWanted wanted)

-- how much is said about a text that is refused, by the form in which an answer says what a session lacks: more beside
-- words, and fields of the answer if this is an object
abbrev pub telling_by : LackForm → Telling
telling_by lack.Line = Short
telling_by lack.Words = Full
telling_by lack.Object = Fields

-- the same for the form of a report, of a story, and of a verdict
abbrev pub how_much : AnswerForm → Telling
how_much form = telling_by (lack_form form)

abbrev pub story_telling : Story → Telling
story_telling story = telling_by (story_lack story)

abbrev pub verdict_telling : VerdictForm → Telling
verdict_telling form = telling_by (verdict_lack form)
