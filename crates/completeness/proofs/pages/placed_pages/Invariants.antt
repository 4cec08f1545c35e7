use Rattle.completeness.specs.inner.Walks.{ArePlaced}
use Rattle.completeness.proofs.pages.placed_pages.Given as goal

abbrev pub invariant-loop-n : goal.invariant-loop-n
invariant-loop-n l = ArePlaced l.session l.n l.placed
