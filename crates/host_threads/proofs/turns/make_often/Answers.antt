use Rattle.std.proofs.Common.{◌-◌, suc, refl, arith}
use Rattle.host_threads.specs.declared.turns.TurnReport.TheVariants.{Idle, Stops}
use Rattle.host_threads.proofs.Making.{ends_with, goes_with, other_goes}
use Rattle.host_threads.proofs.turns.make_often.Goals as goal

pub returns-in-Stops : goal.returns-in-Stops
returns-in-Stops g c = c.loop.invariant (c.args.most - c.loop.counter) _ _ (omega (arith, c.loop-test.true)) (ends_with _ _ c.loop.last (Stops c.in-Stops.fault) _ _ _ (omega (arith, c.loop-test.true)) (rw c.in-Stops.is at c.make_first.ensures) refl refl)

pub loop-preserved : goal.loop-preserved
loop-preserved g c = λ left turn new is more. c.loop.invariant (suc left) turn new (omega (arith, is)) (goes_with _ left c.loop.last c.make_first.result turn _ _ _ c.make_first.ensures (other_goes c.make_first.result c.in_default.not-Idle c.in_default.not-Stops) more)

pub returns-in-Idle : goal.returns-in-Idle
returns-in-Idle g c = c.loop.invariant (c.args.most - c.loop.counter) _ _ (omega (arith, c.loop-test.true)) (ends_with _ _ c.loop.last Idle _ _ _ (omega (arith, c.loop-test.true)) (rw c.in-Idle.is at c.make_first.ensures) refl refl)

pub returns-after-loop : goal.returns-after-loop
returns-after-loop g c = c.loop.invariant 0 c.loop.last (c.loop.one, c.loop.other) (omega (arith, c.loop-test.false, c.loop.auto.counter-end)) (refl, refl)
