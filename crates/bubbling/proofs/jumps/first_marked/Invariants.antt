use Rattle.std.proofs.Common.{◌-◌, ◌≤◌, length}
use Rattle.bubbling.specs.inner.Jumps.{AreJumps, IsGone}
use Rattle.bubbling.proofs.jumps.first_marked.Given as goal

abbrev pub invariant-loop-at : goal.invariant-loop-at
invariant-loop-at l = record {
  jumps : AreJumps l.sweep l.marks l.jumps.items;
  onward : l.from ≤ l.at;
  end : l.at ≤ length l.marks;
  none : IsGone l.sweep l.marks l.from l.at;
}

abbrev pub decreases-loop-at : goal.decreases-loop-at
decreases-loop-at l = length l.marks - l.at
