use Rattle.std.proofs.Common.{◌≡◌, ◌/◌, length, sym, arith}
use Rattle.std.proofs.lemmas.Result.{err_from_is_err_and}
use Rattle.text_lines.specs.Contents.{contents_text}
use Rattle.recorder_files.proofs.Contents.{cells_in}
use Rattle.recorder_files.proofs.machine_lines.read_page.Goals.{then-count-eq0-via-then-count-eq0, then-count-eq0-via-else-count-eq0+then-count}
use Rattle.recorder_files.proofs.machine_lines.read_page.Goals as goal

pub returns-then-count-eq0-clause-refused : goal.returns-then-count-eq0-clause-refused
returns-then-count-eq0-clause-refused c = λ ne p told e.
    let small = told.0 in
    let same = c.in-Some.ensures.only p.page (contents_text p.cells) (omega arith) e in
    let many : length c.in-Some.text.now / 16 ≡ length p.cells = cells_in c.in-Some.text.now p.cells same.1 in
    let some = told.1 in
    let few = told.2 in
    elim c.then-count-eq0.branch [
      | then-count-eq0-via-then-count-eq0 w ↦ omega (arith, w.if-count-eq0.true)
      | then-count-eq0-via-else-count-eq0+then-count w ↦ omega (arith, w.if-count.true)
    ]

pub returns-in_err-cells-clause-refused : goal.returns-in_err-cells-clause-refused
returns-in_err-cells-clause-refused c =
    let q = err_from_is_err_and c.from_residual.result c.from_residual.ensures.1 in
    rw (q.1, q.2) (λ ne p told e.
    let small = told.0 in
    let same = c.in-Some.ensures.only p.page (contents_text p.cells) (omega arith) e in
    let many : length c.in-Some.text.now / 16 ≡ length p.cells = cells_in c.in-Some.text.now p.cells same.1 in
    c.in_err-cells.ensures.refused ne p.cells (record { count = sym many; each = told.3.each }) (sym same.1))
