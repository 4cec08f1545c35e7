use Rattle.std.proofs.Common.{◌≡◌, ◌≤◌, drop, length}
use Rattle.migration_types.specs.Memory.{initial}
use Rattle.page_store.specs.Frames.{memory_of}
use Rattle.page_store.proofs.Store.from_init.Given as goal

abbrev pub invariant-loop-left : goal.invariant-loop-left
invariant-loop-left l = record {
  within : l.left ≤ length l.init;
  geometry : l.store.geometry ≡ l.fn.geometry;
  memory : memory_of l.store ≡ initial (drop l.left l.init);
}

abbrev pub decreases-loop-left : goal.decreases-loop-left
decreases-loop-left l = l.left
