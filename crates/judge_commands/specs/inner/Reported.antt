-- Answers that give the report on a session, or the line at which a session's text is refused.
use Rattle.std.specs.Prelude.{◌≡◌, ℕ, List}
use Rattle.migration_types.specs.Sessions.{Recorded}
use Rattle.audit_report.specs.Reports.{IsReport}
use Rattle.audit_report.specs.declared.report.Report.{Report}
use Rattle.command_texts.specs.declared.answer.Answer.{Answer}
use Rattle.session_answers.specs.Judged.{Judged, Refused, Reported, report_status}

pub record SaysReport (Tells : Judged → List ℕ → Type 0) (s : Recorded) (answer : Answer) : Type 0 where
  pub report : Report
  pub is_report : IsReport s report
  pub tells : Tells (Reported s report) answer.text.items
  pub is_status : answer.status ≡ report_status report

pub record SaysRefusal (Tells : Judged → List ℕ → Type 0) (line : ℕ) (answer : Answer) : Type 0 where
  pub tells : Tells (Refused line) answer.text.items
  pub is_status : answer.status ≡ 1
