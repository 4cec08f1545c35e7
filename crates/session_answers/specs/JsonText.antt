-- The JSON object for the result of an audit or a check: one line, without spaces, with "verdict" as its first field.
-- Its words are those of the report's first line, so none has a letter that JSON escapes.
use Rattle.std.specs.Prelude.{ℕ, List, [], ◌∷◌, ◌++◌, Option, Some, None, codes}
use Rattle.std.specs.Fmt.{decimal}
use Rattle.std.specs.List.{flat_map}
use Rattle.migration_types.specs.declared.cert.Run.{Run}
use Rattle.migration_types.specs.declared.records.LogName.{LogName}
use Rattle.migration_types.specs.declared.records.LogName.TheVariants.{Pager}
use Rattle.migration_types.specs.Receipts.{log_word}
use Rattle.migration_types.specs.Sessions.{Recorded, line_of}
use Rattle.audit_model.specs.Reasons.{page_word, shape_word}
use Rattle.page_facts.specs.declared.page_fault.PageFault.{PageFault}
use Rattle.page_facts.specs.PageFaults.{page_at}
use Rattle.page_facts.specs.declared.faulty.FaultyPage.{FaultyPage}
use Rattle.cert_check.specs.declared.verdict.ShapeFault.{ShapeFault}
use Rattle.cert_check.specs.declared.verdict.Verdict.{Verdict}
use Rattle.cert_check.specs.declared.verdict.Verdict.TheVariants as verdict
use Rattle.completeness.specs.declared.lack.Lack.{Lack}
use Rattle.completeness.specs.declared.lack.Lack.TheVariants as missing
use Rattle.audit_report.specs.declared.report.Report.{Report}
use Rattle.audit_report.specs.declared.report.Report.TheVariants as report
use Rattle.audit_report.specs.ToldLines.{own}

-- a number under a name, as in ,"line":13
unfoldable pub number : List ℕ → ℕ → List ℕ
number name n = codes ",\"" ++ name ++ codes "\":" ++ decimal n

-- a word under a name, as in ,"reason":"early"
unfoldable pub word : List ℕ → List ℕ → List ℕ
word name w = codes ",\"" ++ name ++ codes "\":\"" ++ w ++ codes "\""

-- a run, as in ["guest",3]
abbrev pub run : Run → List ℕ
run r = codes "[\"" ++ log_word r.log ++ codes "\"," ++ decimal r.count ++ codes "]"

-- what begins an object inside another: a number under a name, as in {"page":3
unfoldable pub opened : List ℕ → ℕ → List ℕ
opened name n = codes "{\"" ++ name ++ codes "\":" ++ decimal n

-- more items, each after a comma
abbrev pub after_commas : {X : Type 0} → (X → List ℕ) → List X → List ℕ
after_commas written xs = flat_map (λ x. codes "," ++ written x) xs

-- items, with commas between them
abbrev pub with_commas : {X : Type 0} → (X → List ℕ) → List X → List ℕ
with_commas written [] = []
with_commas written (x ∷ xs) = written x ++ after_commas written xs

-- a list under a name
unfoldable pub listed : {X : Type 0} → List ℕ → (X → List ℕ) → List X → List ℕ
listed name written xs = codes ",\"" ++ name ++ codes "\":[" ++ with_commas written xs ++ codes "]"

-- the runs of an order, as in ,"runs":[["guest",3],["link",1]]
abbrev pub runs : List Run → List ℕ
runs rs = listed (codes "runs") run rs

-- what comes before a verdict
unfoldable pub opening : List ℕ
opening = codes "{\"verdict\":\""

-- the beginning of the object of a verdict, as in {"verdict":"clean"
unfoldable pub begun : List ℕ → List ℕ
begun name = opening ++ name ++ codes "\""

-- the object of a verdict, with its other fields
abbrev pub object : List ℕ → List ℕ → List ℕ
object name told = begun name ++ told ++ codes "}\n"

-- a verdict at a line of a text
abbrev pub at_line : List ℕ → ℕ → List ℕ
at_line name line = object name (number (codes "line") line)

-- the refusal of a table of lines
abbrev pub table_object : ℕ → List ℕ
table_object line = at_line (codes "lines-text") line

-- a record: its log and its number there; with its line in the session's text before them
unfoldable pub record_in : LogName → ℕ → List ℕ
record_in log place = word (codes "log") (log_word log) ++ number (codes "record") place

unfoldable pub record_at : ℕ → LogName → ℕ → List ℕ
record_at line log place = number (codes "line") line ++ record_in log place

-- a page, if there is one
unfoldable pub page_of : Option ℕ → List ℕ
page_of None = []
page_of (Some page) = number (codes "page") page

-- the fields of a fault of shape, with its line number mapped
abbrev pub shape_told : (ℕ → ℕ) → ShapeFault → List ℕ
shape_told tell fault = record_at (tell fault.line) fault.log fault.place ++ word (codes "reason") (shape_word fault.reason)

abbrev pub shape_object : ShapeFault → List ℕ
shape_object fault = object (codes "shape") (shape_told own fault)

-- the fields of a record's fault, with the runs of an order in which it shows
unfoldable pub fault_told : Recorded → ℕ → PageFault → List Run → List ℕ
fault_told s line fault order = record_at line fault.log fault.place ++ word (codes "reason") (page_word fault.reason) ++ page_of (page_at s (fault.log, fault.place)) ++ runs order

-- The object of a report, without its end, with its line number mapped. A knot has the found order up to it, and a
-- clean session the order of its certificate.
unfoldable pub report_begun : (ℕ → ℕ) → Recorded → Report → List ℕ
report_begun tell s (report.Clean cert) = begun (codes "clean") ++ runs cert.runs
report_begun tell s (report.Shape fault) = begun (codes "shape") ++ shape_told tell fault
report_begun tell s (report.Knot left found) = begun (codes "knot") ++ record_at (tell left.line) left.log left.place ++ runs found.runs
report_begun tell s (report.Faulty line fault order many) = begun (codes "faulty") ++ fault_told s (tell line) fault order

-- the object of a report
abbrev pub report_object : Recorded → Report → List ℕ
report_object s report = report_begun own s report ++ codes "}\n"

-- a page with a fault, as in {"page":3,"line":14,"reason":"read"}
unfoldable pub faulty_page : FaultyPage → List ℕ
faulty_page f = opened (codes "page") f.fault.page ++ number (codes "line") f.line ++ word (codes "reason") (page_word f.fault.reason) ++ codes "}"

-- the pages with a fault, or nothing if there is no such page
abbrev pub some_pages_told : List FaultyPage → List ℕ
some_pages_told [] = []
some_pages_told (page ∷ pages) = listed (codes "pages") faulty_page (page ∷ pages)

-- the pages with a fault that a report lists
abbrev pub pages_told : Report → List FaultyPage → List ℕ
pages_told (report.Clean cert) pages = listed (codes "pages") faulty_page pages
pages_told (report.Shape fault) pages = some_pages_told pages
pages_told (report.Knot left found) pages = []
pages_told (report.Faulty line fault order many) pages = listed (codes "pages") faulty_page pages

-- the object of a report that lists these pages with a fault
abbrev pub all_faults_object : Recorded → Report → List FaultyPage → List ℕ
all_faults_object s report pages = report_begun own s report ++ pages_told report pages ++ codes "}\n"

-- the object of a verdict on a certificate
abbrev pub verdict_object : Verdict → List ℕ
verdict_object (verdict.SessionText line) = at_line (codes "session-text") line
verdict_object (verdict.CertText line) = at_line (codes "certificate-text") line
verdict_object (verdict.Shape fault) = shape_object fault
verdict_object verdict.Pages = object (codes "pages") []
verdict_object (verdict.Runs line) = at_line (codes "runs") line
verdict_object (verdict.Page line) = at_line (codes "page") line
verdict_object verdict.Yes = object (codes "yes") []

-- the fields of what is missing from a session, with a line number mapped
unfoldable pub missing_told : (ℕ → ℕ) → Recorded → Lack → List ℕ
missing_told tell s missing.Halt = word (codes "missing") (codes "halt")
missing_told tell s missing.Returned = word (codes "missing") (codes "returned")
missing_told tell s missing.Resume = word (codes "missing") (codes "resume")
missing_told tell s (missing.Page page) = word (codes "missing") (codes "page") ++ number (codes "page") page
missing_told tell s missing.All = word (codes "missing") (codes "all")
missing_told tell s missing.Done = word (codes "missing") (codes "done")
missing_told tell s (missing.Taken n) = word (codes "missing") (codes "placement") ++ record_at (tell (line_of s (Pager, n))) Pager n

-- the object that says that this is missing from a session
abbrev pub missing_object : (ℕ → ℕ) → Recorded → Lack → List ℕ
missing_object tell s m = object (codes "incomplete") (missing_told tell s m)
