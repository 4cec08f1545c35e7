-- The audit of a session that was read from a text.
use Rattle.migration_types.specs.Sessions.{Recorded}
use Rattle.judged_texts.specs.declared.auditing.TextAudit.{TextAudit}
use Rattle.judged_texts.specs.declared.auditing.TextAudit.TheVariants.{Refused, Reported}
use Rattle.audit_report.specs.Reports.{IsReport}

-- the report on this session
abbrev pub IsReportOn : Recorded → TextAudit → Type 0
IsReportOn s (Refused line) = ⊥
IsReportOn s (Reported report) = IsReport s report
