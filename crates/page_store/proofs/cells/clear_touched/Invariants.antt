use Rattle.std.proofs.Common.{◌≡◌, ◌*◌, length, min}
use Rattle.page_store.specs.inner.Blocks.{block, AreTouched, IsCleared}
use Rattle.page_store.proofs.cells.clear_touched.Given as goal

abbrev pub invariant-loop-at : goal.invariant-loop-at
invariant-loop-at l = record {
  touched : AreTouched l.values.items l.touched.items;
  marks : length l.touched.items ≡ length l.fn.touched.items;
  cleared : IsCleared l.from (min (block * l.at) l.to) l.fn.values.items l.values.items;
}
