use Rattle.std.proofs.Common.{arith, ap}
use Rattle.audit_model.specs.World.{world_after}
use Rattle.plain_audit.specs.declared.world.Spot.{Spot}
use Rattle.plain_audit.proofs.FlatPages.{other_length, other_cell, same_page}
use Rattle.plain_audit.proofs.world.is_source_page.Goals as goal

pub returns-then-contents-cells : goal.returns-then-contents-cells
returns-then-contents-cells c =
    let s = c.args.session.now in
    other_length (world_after s c.args.order.now).source s.geometry.cells c.args.page c.args.contents.now (λ e. absurd (grind (arith, e)))

pub returns-then-contents-cell : goal.returns-then-contents-cell
returns-then-contents-cell c =
    let s = c.args.session.now in
    other_cell (world_after s c.args.order.now).source s.geometry.cells c.args.page c.loop-cell.cell c.args.contents.now (grind arith) (λ e. absurd (grind (arith, e, ap (λ (o : Spot). o.source) c.spot_after-spot.ensures)))

pub returns : goal.returns
returns c =
    let s = c.args.session.now in
    same_page (world_after s c.args.order.now).source s.geometry.cells c.args.page c.args.contents.now (grind arith) (λ k lt. c.loop-cell.invariant k (grind arith))
