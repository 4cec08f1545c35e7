use Rattle.std.proofs.Common.{◌≡◌, ◌<◌, ℕ, get_or}
use Rattle.audit_model.specs.World.{world_after}
use Rattle.plain_audit.proofs.world.is_source_page.Given as goal

abbrev pub invariant-loop-cell : goal.invariant-loop-cell
invariant-loop-cell l = (k : ℕ) → k < l.cell → get_or l.contents k 0 ≡ (world_after l.session l.order).source l.page k
