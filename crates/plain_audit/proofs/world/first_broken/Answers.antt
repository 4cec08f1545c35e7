use Rattle.std.proofs.Common.{sym, ◌∙◌}
use Rattle.migration_types.specs.declared.records.LogName.TheVariants.{Guest}
use Rattle.plain_audit.proofs.DemandTests.{nothing_is_safe, safe_more, safe_all, broken_here}
use Rattle.plain_audit.proofs.world.first_broken.Goals as goal

pub loop-at-init : goal.loop-at-init
loop-at-init c = nothing_is_safe c.args.session.now

pub returns-then-not-demand_holds : goal.returns-then-not-demand_holds
returns-then-not-demand_holds c =
    broken_here c.args.session.now c.args.order.now c.loop-at.at (Guest, 0) c.loop-at-test.true c.loop-at.invariant
    (λ demand. let e = sym (c.demand_holds.ensures.1 demand) ∙ c.if-not-demand_holds.true in absurd (cc))

pub loop-at-preserved : goal.loop-at-preserved
loop-at-preserved c =
    safe_more c.args.session.now c.args.order.now c.loop-at.at (Guest, 0) c.loop-at-test.true c.loop-at.invariant (c.demand_holds.ensures.0 c.if-not-demand_holds.false)

pub returns : goal.returns
returns c = safe_all c.args.session.now c.args.order.now c.loop-at.at c.loop-at-test.false c.loop-at.invariant
