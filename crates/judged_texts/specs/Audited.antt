-- The audit of the text of a session.
use Rattle.std.specs.Prelude.{◌↔◌, ℕ, List}
use Rattle.text_lines.specs.Text.{IsSpelling, IsRefusalLine}
use Rattle.migration_types.specs.Sessions.{Recorded}
use Rattle.session_log.specs.Grammar.{SpellsSession}
use Rattle.audit_model.specs.Mergings.{HasMerging}
use Rattle.audit_model.specs.World.{IsSafe}
use Rattle.audit_model.specs.Shape.{IsRightShape}
use Rattle.judged_texts.specs.declared.auditing.TextAudit.{TextAudit}
use Rattle.judged_texts.specs.declared.auditing.TextAudit.TheVariants.{Refused, Reported}
use Rattle.audit_report.specs.declared.report.Report.TheVariants.{Clean, Shape, Knot, Faulty}
use Rattle.audit_report.specs.Reports.{IsReport, IsClean, ReportFits}

-- the line at which the bytes are refused, or the report on the session that they spell
abbrev pub IsAudited : List ℕ → TextAudit → Type 0
IsAudited session (Refused line) = IsRefusalLine SpellsSession session line
IsAudited session (Reported report) = (recorded : Recorded) × IsSpelling SpellsSession recorded session × IsReport recorded report

-- there is a report
abbrev pub HasReport : TextAudit → Type 0
HasReport (Refused line) = ⊥
HasReport (Reported report) = Unit {0}

-- there is a report, and it says that the session is clean
abbrev pub FindsClean : TextAudit → Type 0
FindsClean (Refused line) = ⊥
FindsClean (Reported report) = IsClean report

-- there is a report, and it says that a page has a fault
abbrev pub FindsFault : TextAudit → Type 0
FindsFault (Refused line) = ⊥
FindsFault (Reported (Shape fault)) = ⊥
FindsFault (Reported (Knot left found)) = ⊥
FindsFault (Reported (Faulty line fault order many)) = Unit {0}
FindsFault (Reported (Clean cert)) = ⊥

-- some merging has a record whose demand fails
abbrev pub IsUnsafe : Recorded → Type 0
IsUnsafe s = IsSafe s → ⊥

-- if the shape is right and there is a merging, the session is safe exactly when it is said to be clean
abbrev pub IsSafeExactlyIf : Type 0 → Recorded → Type 0
IsSafeExactlyIf Says s = IsRightShape s → HasMerging s → (IsSafe s ↔ Says)

-- the report is within the limits of its text
abbrev pub AuditedFits : TextAudit → Type 0
AuditedFits (Refused line) = Unit {0}
AuditedFits (Reported report) = ReportFits report
