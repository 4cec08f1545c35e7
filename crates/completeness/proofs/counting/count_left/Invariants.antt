use Rattle.std.proofs.Common.{◌≡◌, ◌≤◌}
use Rattle.completeness.specs.Left.{left_below}
use Rattle.completeness.proofs.counting.count_left.Given as goal

abbrev pub invariant-loop-number : goal.invariant-loop-number
invariant-loop-number l = (l.count ≡ left_below l.session l.number) × (l.count ≤ l.number)
