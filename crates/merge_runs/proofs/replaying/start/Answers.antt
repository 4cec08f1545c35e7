use Rattle.std.proofs.Common.{ap}
use Rattle.audit_model.specs.World.{World}
use Rattle.merge_runs.proofs.replaying.start.Goals as goal

pub returns-clause-start : goal.returns-clause-start
returns-clause-start c =
    let world = c.in_ok-moving.ensures.world in
    record {
      world = world;
      flat = ap (λ (w : World). w.source) world;
      apart = ap (λ (w : World). w.home) world;
      broken = tt;
    }
