-- The text of a report that lists each page with a fault.
use Rattle.std.specs.Prelude.{ℕ, List, [], ◌∷◌, ◌++◌, codes}
use Rattle.std.specs.Fmt.{decimal}
use Rattle.text_lines.specs.Text.{ended}
use Rattle.text_lines.specs.Counted.{counted}
use Rattle.audit_model.specs.Reasons.{page_word}
use Rattle.page_facts.specs.declared.faulty.FaultyPage.{FaultyPage}
use Rattle.audit_report.specs.declared.report.Report.{Report}
use Rattle.audit_report.specs.declared.report.Report.TheVariants.{Clean, Shape, Knot, Faulty}
use Rattle.audit_report.specs.ReportText.{first_line}

-- the line of a page with a fault, as in "page 3 line 14 read"
abbrev pub faulty_page_line : FaultyPage → List ℕ
faulty_page_line f = codes "page " ++ decimal f.fault.page ++ codes " line " ++ decimal f.line ++ 32 ∷ page_word f.fault.reason

-- the number of pages with a fault, as in "faulty-pages 2", and a line for each
abbrev pub faulty_pages_lines : List FaultyPage → List (List ℕ)
faulty_pages_lines pages = counted (codes "faulty-pages ") faulty_page_line pages []

-- the same, or nothing if there is no such page
abbrev pub some_faulty_pages_lines : List FaultyPage → List (List ℕ)
some_faulty_pages_lines [] = []
some_faulty_pages_lines (page ∷ pages) = faulty_pages_lines (page ∷ pages)

-- what follows the first line
abbrev pub pages_after : Report → List FaultyPage → List (List ℕ)
pages_after (Shape fault) pages = some_faulty_pages_lines pages
pages_after (Knot left found) pages = []
pages_after (Faulty line fault order many) pages = faulty_pages_lines pages
pages_after (Clean cert) pages = faulty_pages_lines pages

-- the text of a report that lists these pages with a fault
abbrev pub all_faults_text : Report → List FaultyPage → List ℕ
all_faults_text report pages = ended (first_line report ∷ pages_after report pages)
