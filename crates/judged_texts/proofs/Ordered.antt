-- The order that the text of a report tells.
use Rattle.std.proofs.Common.{◌≤◌, ◌<◌, ◌^◌, ℕ, List, ◌∷◌, refl, arith}
use Rattle.migration_types.specs.declared.cert.Run.{Run}
use Rattle.migration_types.specs.declared.records.LogName.{LogName}
use Rattle.migration_types.specs.declared.records.LogName.TheVariants.{Guest, Source, Link, Lane, Pager}
use Rattle.migration_types.specs.declared.version.Version.TheVariants.{Two}
use Rattle.migration_types.specs.declared.size.Size.TheVariants.{Large}
use Rattle.migration_types.specs.Sessions.{Recorded, line_of}
use Rattle.migration_types.specs.Certs.{Certified, AreRuns, IsCert}
use Rattle.cert_text.specs.Runs.{runs_text_header, runs_lines}
use Rattle.cert_text.specs.Grammar.{cert_lines}
use Rattle.page_facts.specs.declared.page_fault.PageFault.{PageFault}
use Rattle.cert_text.specs.declared.forms.OrderForm.TheVariants as form
use Rattle.audit_report.specs.declared.report.Report.TheVariants.{Faulty, Clean}
use Rattle.audit_report.specs.Reports.{IsReport}
use Rattle.audit_report.specs.ReportText.{report_lines}
use Rattle.judged_texts.specs.Ordered.{TellsOrder}

some_line : (s : Recorded) (log : LogName) (n : ℕ) → 1 ≤ line_of s (log, n)
some_line s Guest n = omega arith
some_line s Source n = omega arith
some_line s Link n = omega arith
some_line s Lane n = omega arith
some_line s Pager n = omega arith

pub faulty_tells : (s : Recorded) (line : ℕ) (fault : PageFault) (order : List Run) (many : ℕ) → line < 2 ^ 32 → AreRuns Two Large order → IsReport s (Faulty line fault order many) → TellsOrder (Faulty line fault order many)
faulty_tells s line fault order many few fits is =
    let some = some_line s fault.log fault.place in
    let at = is.1.is_line in
    (report_lines (Faulty line fault order many), (form.Faulty line fault.reason, ((omega arith, omega arith), (runs_text_header ∷ runs_lines order, (fits, refl), refl))), refl)

pub clean_tells : (cert : Certified) → IsCert cert → TellsOrder (Clean cert)
clean_tells cert fits = (report_lines (Clean cert), (form.Clean, (cert_lines cert, (cert, (fits, refl), refl), refl)), refl)
