use Rattle.host_threads.proofs.Making.{passes_one}
use Rattle.host_threads.proofs.turns.make_first.Goals as goal

pub loop-event-preserved : goal.loop-event-preserved
loop-event-preserved g c = λ turn new more. c.loop-event.invariant turn new (passes_one (g.M.Makes.makes c.args.maker.now) c.args.events.now c.loop-event.event-index _ c.make.result turn _ _ new c.loop-event-test.true c.make.ensures c.in-Idle.is more)
