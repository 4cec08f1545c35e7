use Rattle.completeness.specs.Complete.{is_page_left}
use Rattle.completeness.specs.inner.Least.{NonePass}
use Rattle.completeness.proofs.counting.are_placed.Given as goal

abbrev pub invariant-loop-number : goal.invariant-loop-number
invariant-loop-number l = NonePass (is_page_left l.session) l.number
