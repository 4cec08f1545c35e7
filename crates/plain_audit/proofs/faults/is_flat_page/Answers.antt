use Rattle.std.proofs.Common.{arith}
use Rattle.audit_model.specs.Flat.{flat}
use Rattle.plain_audit.proofs.FlatPages.{other_length, other_cell, same_page}
use Rattle.plain_audit.proofs.faults.is_flat_page.Goals as goal

pub returns-then-contents-cells : goal.returns-then-contents-cells
returns-then-contents-cells c =
    let s = c.args.session.now in
    other_length (flat s c.args.place) s.geometry.cells c.args.page c.args.contents.now (λ e. absurd (grind (arith, e)))

pub returns-then-contents-cell : goal.returns-then-contents-cell
returns-then-contents-cell c =
    let s = c.args.session.now in
    other_cell (flat s c.args.place) s.geometry.cells c.args.page c.loop-cell.cell c.args.contents.now (grind arith) (λ e. absurd (grind (arith, e)))

pub returns : goal.returns
returns c =
    let s = c.args.session.now in
    same_page (flat s c.args.place) s.geometry.cells c.args.page c.args.contents.now (grind arith) (λ k lt. c.loop-cell.invariant k (grind arith))
