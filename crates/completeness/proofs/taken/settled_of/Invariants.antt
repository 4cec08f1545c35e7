use Rattle.completeness.specs.inner.Walks.{AreSettled}
use Rattle.completeness.proofs.taken.settled_of.Given as goal

abbrev pub invariant-loop-n : goal.invariant-loop-n
invariant-loop-n l = AreSettled l.session l.n l.marks.items
