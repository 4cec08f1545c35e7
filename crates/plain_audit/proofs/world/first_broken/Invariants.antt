use Rattle.std.proofs.Common.{take}
use Rattle.audit_model.specs.World.{IsSafeOrder}
use Rattle.plain_audit.proofs.world.first_broken.Given as goal

abbrev pub invariant-loop-at : goal.invariant-loop-at
invariant-loop-at l = IsSafeOrder l.session (take l.at l.order)
