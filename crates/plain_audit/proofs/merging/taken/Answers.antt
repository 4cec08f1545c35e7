use Rattle.std.proofs.Common.{sym, ◌∙◌, arith}
use Rattle.audit_model.proofs.FirstNames.{counts_more, counts_same}
use Rattle.plain_audit.proofs.merging.taken.Goals as goal
use Rattle.plain_audit.proofs.merging.taken.Goals.{then-same_log, else-same_log}

pub loop-at-preserved : goal.loop-at-preserved
loop-at-preserved c = elim c.if-same_log.branch [
  | then-same_log w ↦ (
    w.count-is ∙ counts_more c.args.order.now c.loop-at.at c.loop-at.count _ c.args.log c.loop-at-test.true c.loop-at.invariant.0 (sym c.same_log.ensures ∙ w.if-same_log.true),
    omega (arith, w.count-is, c.loop-at.invariant.1),
  )
  | else-same_log w ↦ (
    w.count-is ∙ counts_same c.args.order.now c.loop-at.at c.loop-at.count _ c.args.log c.loop-at-test.true c.loop-at.invariant.0 (sym c.same_log.ensures ∙ w.if-same_log.false),
    omega (arith, w.count-is, c.loop-at.invariant.1),
  )
]
