use Rattle.std.proofs.Common.{ap, arith}
use Rattle.bubbling.specs.Bubbling.{marked}
use Rattle.bubbling.proofs.Sizes.{one_if, size_more, size_le}
use Rattle.bubbling.proofs.unsent.count.Goals as goal
use Rattle.bubbling.proofs.unsent.count.Goals.{then-marks-n, else-marks-n}

pub overflow_add-left : goal.overflow_add-left
overflow_add-left c = omega (arith, size_le (marked c.args.marks.now) c.loop-n.n, c.loop-n.invariant)

pub loop-n-preserved : goal.loop-n-preserved
loop-n-preserved c =
    let more = size_more (marked c.args.marks.now) c.loop-n.n in
    elim c.if-marks-n.branch [
      | then-marks-n w ↦ let b = ap one_if w.if-marks-n.true in omega (arith, more, b, c.loop-n.invariant)
      | else-marks-n w ↦ let b = ap one_if w.if-marks-n.false in omega (arith, more, b, c.loop-n.invariant)
    ]
