-- A report that contains an order is a text that gives it.
use Rattle.text_lines.specs.Text.{IsSpelling}
use Rattle.cert_text.specs.Order.{SpellsOrder}
use Rattle.audit_report.specs.declared.report.Report.{Report}
use Rattle.audit_report.specs.declared.report.Report.TheVariants.{Faulty, Clean}
use Rattle.audit_report.specs.ReportText.{report_text}

-- the text of a report on a session with a fault gives the order that shows it, and that of a report on a clean session
-- gives the order of its certificate
abbrev pub TellsOrder : Report → Type 0
TellsOrder (Faulty line fault order many) = IsSpelling SpellsOrder order (report_text (Faulty line fault order many))
TellsOrder (Clean cert) = IsSpelling SpellsOrder cert.runs (report_text (Clean cert))
TellsOrder _ = Unit {0}
