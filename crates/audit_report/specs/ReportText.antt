-- The text of a report. Numbers are in decimal, with no sign and no leading zero.
use Rattle.std.specs.Prelude.{ℕ, List, [], ◌∷◌, ◌++◌, codes}
use Rattle.std.specs.Fmt.{decimal}
use Rattle.text_lines.specs.Text.{ended}
use Rattle.audit_model.specs.Reasons.{shape_word}
use Rattle.cert_check.specs.declared.verdict.ShapeFault.{ShapeFault}
use Rattle.cert_text.specs.Runs.{runs_text_header, runs_lines}
use Rattle.cert_text.specs.Grammar.{cert_lines}
pub use Rattle.cert_text.specs.Order.{clean_line, faulty_line}
use Rattle.audit_report.specs.declared.report.Report.{Report}
use Rattle.audit_report.specs.declared.report.Report.TheVariants.{Clean, Shape, Knot, Faulty}
use Rattle.audit_report.specs.ToldLines.{own}

-- words about a line, and its number
abbrev pub at_line : List ℕ → ℕ → List ℕ
at_line said line = said ++ decimal line

-- the line of a fault of shape, as in "shape line 30 named", with its line number mapped
abbrev pub shape_line_by : (ℕ → ℕ) → ShapeFault → List ℕ
shape_line_by tell fault = at_line (codes "shape line ") (tell fault.line) ++ 32 ∷ shape_word fault.reason

-- the line of a knot, as in "knot line 10"
abbrev pub knot_line : ℕ → List ℕ
knot_line line = at_line (codes "knot line ") line

-- the first line of a report, with its line number mapped
abbrev pub first_line_by : (ℕ → ℕ) → Report → List ℕ
first_line_by tell (Shape fault) = shape_line_by tell fault
first_line_by tell (Knot left found) = knot_line (tell left.line)
first_line_by tell (Faulty line fault order many) = faulty_line (tell line) fault.reason
first_line_by tell (Clean cert) = clean_line

-- both lines with the line numbers of the session's own text
abbrev pub shape_line : ShapeFault → List ℕ
shape_line fault = shape_line_by own fault

abbrev pub first_line : Report → List ℕ
first_line report = first_line_by own report

-- what follows the first line: the text of the order's runs, or of the certificate
abbrev pub lines_behind : Report → List (List ℕ)
lines_behind (Shape fault) = []
lines_behind (Knot left found) = []
lines_behind (Faulty line fault order many) = runs_text_header ∷ runs_lines order
lines_behind (Clean cert) = cert_lines cert

-- the lines of a report
abbrev pub report_lines : Report → List (List ℕ)
report_lines report = first_line report ∷ lines_behind report

-- the text of a report, each line ended by LF
abbrev pub report_text : Report → List ℕ
report_text report = ended (report_lines report)
