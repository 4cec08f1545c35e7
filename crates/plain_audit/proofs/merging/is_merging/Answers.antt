use Rattle.std.proofs.Common.{sym, ◌∙◌}
use Rattle.audit_model.proofs.FirstNames.{walks_more, no_merging, walked_all, whole_Decides}
use Rattle.audit_model.proofs.PageFaultTests.{told}
use Rattle.plain_audit.proofs.merging.is_merging.Goals as goal

pub returns-then-not-may_follow : goal.returns-then-not-may_follow
returns-then-not-may_follow c = (λ e. absurd (cc), λ m. absurd (no_merging c.args.session.now c.args.order.now c.loop-at.at _ c.loop-at-test.true (sym c.may_follow.ensures ∙ c.if-not-may_follow.true) m))

pub loop-at-preserved : goal.loop-at-preserved
loop-at-preserved c = walks_more c.args.session.now c.args.order.now c.loop-at.at _ c.loop-at-test.true c.loop-at.invariant (sym c.may_follow.ensures ∙ c.if-not-may_follow.false)

pub returns : goal.returns
returns c =
    let s = c.args.session.now in
    told c.takes_all.result _ c.takes_all.ensures (whole_Decides s c.args.order.now (walked_all s c.args.order.now c.loop-at.at c.loop-at-test.false c.loop-at.invariant))
