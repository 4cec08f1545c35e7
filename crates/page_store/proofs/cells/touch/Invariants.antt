use Rattle.std.proofs.Common.{◌≡◌, ℕ, ◌<◌, ◌≤◌, ◌⊎◌, false, length, get_or}
use Rattle.page_store.proofs.cells.touch.Given as goal

abbrev pub invariant-loop-at : goal.invariant-loop-at
invariant-loop-at l = record {
  len : length l.marks.items ≡ length l.fn.marks.items;
  unset : (k : ℕ) → get_or l.marks.items k false ≡ false → (get_or l.fn.marks.items k false ≡ false) × ((k < l.from) ⊎ (l.at ≤ k));
}
