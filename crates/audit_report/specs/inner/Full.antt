-- An audit with each page that has a fault, and what is known before the pages are judged.
use Rattle.migration_types.specs.Sessions.{Recorded}
use Rattle.audit_model.specs.Shape.{IsRightShape}
use Rattle.page_facts.specs.FaultyPages.{AreFaultyPages}
use Rattle.cert_maker.specs.Orders.{AreFoundRuns}
use Rattle.audit_report.specs.Reports.{IsReport, JudgesPages}
use Rattle.audit_report.specs.declared.report.FullAudit.{FullAudit}
use Rattle.audit_report.specs.declared.auditing.OrderOrReport.{OrderOrReport}
use Rattle.audit_report.specs.declared.auditing.OrderOrReport.TheVariants as before

-- the found order of a session of the right shape, or the report on a session whose pages are not judged
abbrev pub IsOrderOrReport : Recorded → OrderOrReport → Type 0
IsOrderOrReport s (before.Order found) = IsRightShape s × AreFoundRuns s found
IsOrderOrReport s (before.Report report) = IsReport s report × (JudgesPages report → ⊥)

-- the report, and the pages with a fault if it judges the pages
pub record IsFullAudit (s : Recorded) (full : FullAudit) : Type 0 where
  pub report : IsReport s full.report
  pub pages : JudgesPages full.report → AreFaultyPages s full.pages.items
