-- The status of an answer is 0 or 1.
use Rattle.std.proofs.Common.{ℕ, ◌<◌, inl, inr, List, Option, arith}
use Rattle.cert_check.specs.declared.verdict.Verdict.{Verdict}
use Rattle.cert_check.specs.declared.verdict.Verdict.TheVariants as verdict
use Rattle.audit_report.specs.declared.report.Report.{Report}
use Rattle.audit_report.specs.declared.report.Report.TheVariants as report
use Rattle.judged_texts.specs.declared.replaying.Outcome.{Outcome}
use Rattle.judged_texts.specs.declared.replaying.Outcome.TheVariants as outcome
use Rattle.judge_commands.specs.Answers.{IsVerdictTold, verdict_lack, verdict_status, verdict_text}
use Rattle.session_answers.specs.Judged.{IsJudgedTold, Judged, Refused, Reported, judged_status, report_status}
use Rattle.completeness.specs.declared.lack.Extent.{Extent}
use Rattle.command_words.specs.declared.requests.VerdictForm.{VerdictForm}
use Rattle.session_answers.specs.declared.forms.Ask.{Ask}
use Rattle.session_answers.specs.declared.forms.Story.{Story}
use Rattle.session_answers.specs.Forms.{Tells, TellsStory}
use Rattle.session_answers.specs.Lacks.{TellsLack, lack_form, story_lack}
use Rattle.audit_report.specs.ToldLines.{line_by, own}
use Rattle.judge_commands.specs.ByTables.{IsExplainedByTable}
use Rattle.judge_commands.specs.Completed.{IsAnswered, IsChecked}
use Rattle.judge_commands.proofs.Lacking.{demanded_few}
use Rattle.judge_commands.specs.Replayed.{IsReplayAnswer, outcome_status}

pub verdict_few : (v : Verdict) → verdict_status v < 2
verdict_few (verdict.SessionText n) = omega arith
verdict_few (verdict.CertText n) = omega arith
verdict_few (verdict.Shape fault) = omega arith
verdict_few verdict.Pages = omega arith
verdict_few (verdict.Runs n) = omega arith
verdict_few (verdict.Page n) = omega arith
verdict_few verdict.Yes = omega arith

report_few : (r : Report) → report_status r < 2
report_few (report.Clean cert) = omega arith
report_few (report.Shape fault) = omega arith
report_few (report.Knot left found) = omega arith
report_few (report.Faulty line fault order many) = omega arith

judged_few : (j : Judged) → judged_status j < 2
judged_few (Refused line) = omega arith
judged_few (Reported s r) = report_few r

outcome_few : (o : Outcome) → outcome_status o < 2
outcome_few (outcome.SessionText n) = omega arith
outcome_few (outcome.RunsText n) = omega arith
outcome_few (outcome.Shape fault) = omega arith
outcome_few outcome.NoMerging = omega arith
outcome_few (outcome.Broken n) = omega arith
outcome_few outcome.Safe = omega arith

pub judged_told_few : (Tells : Judged → List ℕ → Type 0) (session text : List ℕ) (status : ℕ) → IsJudgedTold Tells session text status → status < 2
judged_told_few Tells session text status h = rw h.is_status (judged_few h.value)

pub verdict_told_few : (words : Verdict → List ℕ) (texts : List ℕ × List ℕ) (text : List ℕ) (status : ℕ) → IsVerdictTold words texts text status → status < 2
verdict_told_few words texts text status h = rw h.is_status (verdict_few h.value)

-- so is that of an answer to what is asked
pub answered_few : (ask : Ask) (session text : List ℕ) (status : ℕ) → IsAnswered ask session text status → status < 2
answered_few ask session text status h =
    demanded_few ask.complete (TellsLack own (lack_form ask.form)) (IsJudgedTold (Tells ask.form) session) session text status (judged_told_few (Tells ask.form) session) h

pub explained_few : (story : Story) (complete : Option Extent) (texts : List ℕ × List ℕ) (text : List ℕ) (status : ℕ) → IsExplainedByTable story complete texts text status → status < 2
explained_few story complete texts text status (inl (table, spelled, h)) =
    let tell = line_by table in
    demanded_few complete (TellsLack tell (story_lack story)) (IsJudgedTold (TellsStory tell story) texts.0) texts.0 text status (judged_told_few (TellsStory tell story) texts.0) h
explained_few story complete texts text status (inr h) = rw h.is_status (omega arith)

pub checked_few : (form : VerdictForm) (complete : Option Extent) (texts : List ℕ × List ℕ) (text : List ℕ) (status : ℕ) → IsChecked form complete texts text status → status < 2
checked_few form complete texts text status h =
    demanded_few complete (TellsLack own (verdict_lack form)) (IsVerdictTold (verdict_text form) texts) texts.0 text status (verdict_told_few (verdict_text form) texts) h

pub replay_few : (texts : List ℕ × List ℕ) (text : List ℕ) (status : ℕ) → IsReplayAnswer texts.0 texts.1 text status → status < 2
replay_few texts text status h = rw h.is_status (outcome_few h.value)
