use Rattle.std.proofs.Common.{length, ap, arith}
use Rattle.audit_report.proofs.Showing.{none_placed}
use Rattle.audit_report.proofs.placements.first_placement.Goals as goal

pub returns : goal.returns
returns c = none_placed c.args.session.now c.args.page c.loop-n.n (omega (arith, c.loop-n-test.false, ap length c.pager-pager.ensures)) c.loop-n.invariant
