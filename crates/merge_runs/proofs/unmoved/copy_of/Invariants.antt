use Rattle.std.proofs.Common.{◌≡◌, ℕ, ◌<◌}
use Rattle.page_store.specs.Frames.{memory_of}
use Rattle.merge_runs.proofs.unmoved.copy_of.Given as goal

abbrev pub invariant-loop-index : goal.invariant-loop-index
invariant-loop-index l = record {
  geometry : l.copy.geometry ≡ l.frames.geometry;
  copied : (p c : ℕ) → p < l.index → memory_of l.copy p c ≡ memory_of l.frames p c;
}
