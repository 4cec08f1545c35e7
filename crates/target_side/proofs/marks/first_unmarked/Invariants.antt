use Rattle.std.proofs.Common.{◌≡◌, ℕ, ◌<◌, ◌≤◌, ◌||◌, true}
use Rattle.page_store.specs.Tables.{values}
use Rattle.target_side.proofs.marks.first_unmarked.Given as goal

abbrev pub invariant-loop-number : goal.invariant-loop-number
invariant-loop-number l = (p : ℕ) → l.from ≤ p → p < l.number → (values l.one p || (values l.other p || values l.third p)) ≡ true
