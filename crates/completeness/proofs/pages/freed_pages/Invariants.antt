use Rattle.completeness.specs.inner.Walks.{AreFreed}
use Rattle.completeness.proofs.pages.freed_pages.Given as goal

abbrev pub invariant-loop-n : goal.invariant-loop-n
invariant-loop-n l = AreFreed l.session l.n l.home l.freed
