use Rattle.completeness.specs.Complete.{is_taken_left}
use Rattle.completeness.specs.inner.Least.{NonePass}
use Rattle.completeness.proofs.taken.first_taken.Given as goal

abbrev pub invariant-loop-n : goal.invariant-loop-n
invariant-loop-n l = NonePass (is_taken_left l.session) l.n
