use Rattle.std.proofs.Common.{◌≡◌, ℕ, drop}
use Rattle.migration_types.specs.Memory.{initial}
use Rattle.session_story.proofs.values.cells_at_start.Given as goal

abbrev pub invariant-loop-given : goal.invariant-loop-given
invariant-loop-given l = (at : ℕ) → initial l.init l.page at ≡ initial (drop l.given-index l.init) l.page at
