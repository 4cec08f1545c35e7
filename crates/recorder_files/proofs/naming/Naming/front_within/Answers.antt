use Rattle.recorder_files.proofs.Narrowing.{begins, goes_on, gets_smaller, ends, alike, unlike}
use Rattle.recorder_files.proofs.naming.Naming.front_within.Goals as goal

pub loop-front-init : goal.loop-front-init
loop-front-init c = begins c.args.self.now c.args.most c.narrow-next.result c.narrow-next.ensures.within c.narrow-next.ensures.reach

pub loop-front-preserved : goal.loop-front-preserved
loop-front-preserved c = goes_on c.args.self.now c.args.most c.loop-front.front c.loop-front.next c.narrow-next-in-loop-front.result c.loop-front.invariant c.narrow-next-in-loop-front.ensures.within c.narrow-next-in-loop-front.ensures.reach

pub loop-front-smaller : goal.loop-front-smaller
loop-front-smaller c = gets_smaller c.args.self.now c.args.most c.loop-front.front c.loop-front.next c.loop-front.invariant (unlike c.loop-front.next c.loop-front.front c.loop-front-test.ensures)

pub returns : goal.returns
returns c = ends c.args.self.now c.args.most c.loop-front.front c.loop-front.next c.loop-front.invariant (alike c.loop-front.next c.loop-front.front c.loop-front-test.ensures)
