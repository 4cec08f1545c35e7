use Rattle.std.proofs.Common.{◌≡◌}
use Rattle.migration_types.specs.PageSets.{size_below}
use Rattle.bubbling.specs.Bubbling.{marked}
use Rattle.bubbling.proofs.unsent.count.Given as goal

abbrev pub invariant-loop-n : goal.invariant-loop-n
invariant-loop-n l = l.left ≡ size_below l.n (marked l.marks)
