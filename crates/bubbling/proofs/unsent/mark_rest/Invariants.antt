use Rattle.std.proofs.Common.{◌≡◌, ℕ, ◌<◌, false, length, get_or, not}
use Rattle.balloon_ledger.specs.Released.{released}
use Rattle.bubbling.proofs.unsent.mark_rest.Given as goal

abbrev pub invariant-loop-n : goal.invariant-loop-n
invariant-loop-n l = record {
  len : length l.marks.items ≡ length l.initial.marks.items;
  each : (k : ℕ) → k < l.n → get_or l.marks.items k false ≡ not (released l.ledger k);
}
