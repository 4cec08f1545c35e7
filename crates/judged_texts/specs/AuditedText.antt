-- The text that is written for the audit of a session's text.
use Rattle.std.specs.Prelude.{ℕ, List, [], ◌∷◌}
use Rattle.text_lines.specs.Text.{ended}
use Rattle.cert_text.specs.Grammar.{cert_lines}
use Rattle.audit_report.specs.declared.report.Report.{Report}
use Rattle.audit_report.specs.declared.report.Report.TheVariants as report
use Rattle.judged_texts.specs.declared.auditing.TextAudit.{TextAudit}
use Rattle.judged_texts.specs.declared.auditing.TextAudit.TheVariants.{Refused, Reported}
use Rattle.judged_texts.specs.declared.audit_part.AuditPart.{AuditPart}
use Rattle.judged_texts.specs.declared.audit_part.AuditPart.TheVariants as wanted
use Rattle.audit_report.specs.ReportText.{first_line, report_text}
use Rattle.audit_report.specs.RefusalText.{refusal_text}

-- the certificate's spelling if the session is clean, and otherwise the first line of the report
abbrev pub certificate_text : Report → List ℕ
certificate_text (report.Clean cert) = ended (cert_lines cert)
certificate_text (report.Shape fault) = ended (first_line (report.Shape fault) ∷ [])
certificate_text (report.Knot left found) = ended (first_line (report.Knot left found) ∷ [])
certificate_text (report.Faulty line fault order many) = ended (first_line (report.Faulty line fault order many) ∷ [])

-- the wanted part of a report
abbrev pub wanted_text : AuditPart → Report → List ℕ
wanted_text wanted.Report r = report_text r
wanted_text wanted.Certificate r = certificate_text r
wanted_text wanted.FirstLine r = ended (first_line r ∷ [])

-- the wanted part of the audit of a text
abbrev pub audited_text : AuditPart → TextAudit → List ℕ
audited_text wanted (Refused line) = refusal_text line
audited_text wanted (Reported r) = wanted_text wanted r
