use Rattle.std.proofs.Common.{ap, ◌∙◌, get_or}
use Rattle.migration_types.specs.declared.records.LogName.TheVariants.{Guest}
use Rattle.plain_audit.specs.Spots.{spot_step}
use Rattle.plain_audit.proofs.SpotSteps.{spot_more}
use Rattle.plain_audit.proofs.world.spot_after.Goals as goal

pub loop-at-preserved : goal.loop-at-preserved
loop-at-preserved c =
    let s = c.args.session.now in
    let name = get_or c.args.order.now c.loop-at.at (Guest, 0) in
    c.after_record-spot.ensures
    ∙ ap (λ o. spot_step s c.args.page c.args.cell name o) c.loop-at.invariant
    ∙ spot_more s c.args.order.now c.loop-at.at c.args.page c.args.cell (Guest, 0) c.loop-at-test.true
