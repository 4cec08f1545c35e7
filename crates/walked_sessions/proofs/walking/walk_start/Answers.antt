use Rattle.std.proofs.Common.{take, refl}
use Rattle.walked_sessions.specs.inner.Meeting.{begun_with}
use Rattle.walked_sessions.proofs.Meeting.{init_met}
use Rattle.walked_sessions.proofs.walking.walk_start.Goals as goal

pub loop-i-preserved : goal.loop-i-preserved
loop-i-preserved g c =
    let met = c.in_ok-meet_page.ensures (begun_with c.args.machine.now (take c.loop-i.i c.args.init.now)) (refl, (refl, (refl, (refl, refl)))) c.loop-i.invariant in
    init_met g.V.Visitor.Met c.meet_page.new.visitor c.args.machine.now c.args.init.now c.loop-i.i c.index-init-i.result c.loop-i-test.true c.index-init-i.is met
