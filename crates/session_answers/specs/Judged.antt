-- The judgement of a session's text.
use Rattle.std.specs.Prelude.{◌≡◌, ℕ, List}
use Rattle.text_lines.specs.Text.{IsSpelling, IsRefusalLine}
use Rattle.migration_types.specs.Sessions.{Recorded}
use Rattle.session_log.specs.Grammar.{SpellsSession}
use Rattle.audit_report.specs.Reports.{IsReport}
use Rattle.audit_report.specs.declared.report.Report.{Report}
use Rattle.audit_report.specs.declared.report.Report.TheVariants as report

-- the line at which a session's text is refused, or the session that it spells, with its report
pub data Judged : Type 0 where
  Refused : ℕ → Judged
  Reported : Recorded → Report → Judged

abbrev pub IsJudged : List ℕ → Judged → Type 0
IsJudged session (Refused line) = IsRefusalLine SpellsSession session line
IsJudged session (Reported s report) = IsSpelling SpellsSession s session × IsReport s report

-- the status of a report: 0 for clean, and 1 for every other report
abbrev pub report_status : Report → ℕ
report_status (report.Clean cert) = 0
report_status other = 1

-- the status of a judgement: that of its report, and 1 for a text that is refused
abbrev pub judged_status : Judged → ℕ
judged_status (Refused line) = 1
judged_status (Reported s report) = report_status report

-- the judgement of a session's text is written so, with its status
pub record IsJudgedTold (Tells : Judged → List ℕ → Type 0) (session text : List ℕ) (status : ℕ) : Type 0 where
  pub value : Judged
  pub is_right : IsJudged session value
  pub tells : Tells value text
  pub is_status : status ≡ judged_status value
