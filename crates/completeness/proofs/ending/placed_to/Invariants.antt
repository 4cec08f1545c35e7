use Rattle.std.proofs.Common.{◌≡◌}
use Rattle.completeness.specs.Complete.{placed_to}
use Rattle.completeness.proofs.ending.placed_to.Given as goal

abbrev pub invariant-loop-n : goal.invariant-loop-n
invariant-loop-n l = l.placed ≡ placed_to l.session l.n
