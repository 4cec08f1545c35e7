use Rattle.std.proofs.Common.{◌≡◌, take}
use Rattle.audit_model.specs.World.{world_after}
use Rattle.plain_audit.specs.Spots.{spot_at}
use Rattle.plain_audit.proofs.world.spot_after.Given as goal

abbrev pub invariant-loop-at : goal.invariant-loop-at
invariant-loop-at l = l.spot ≡ spot_at (world_after l.session (take l.at l.order)) l.page l.cell
