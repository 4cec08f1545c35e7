use Rattle.audit_model.specs.World.{world_after}
use Rattle.plain_audit.proofs.DemandTests.{demand_Decides}
use Rattle.audit_model.proofs.PageFaultTests.{told}
use Rattle.plain_audit.proofs.world.demand_holds.Goals as goal

pub returns : goal.returns
returns c =
    let s = c.args.session.now in
    told c.tests_demand.result _ c.tests_demand.ensures (demand_Decides s (world_after s c.args.order.now) (c.args.log, c.args.place))
