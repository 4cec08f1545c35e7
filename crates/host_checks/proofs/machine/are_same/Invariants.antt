use Rattle.std.proofs.Common.{◌≡◌, ℕ, ◌<◌}
use Rattle.migration_types.specs.Memory.{page_of}
use Rattle.page_store.specs.Frames.{memory_of}
use Rattle.host_checks.proofs.machine.are_same.Given as goal

abbrev pub invariant-loop-page : goal.invariant-loop-page
invariant-loop-page l = (p : ℕ) → p < l.page → page_of l.other.geometry.cells (memory_of l.one) p ≡ page_of l.other.geometry.cells (memory_of l.other) p
