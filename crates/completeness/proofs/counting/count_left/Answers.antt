use Rattle.std.proofs.Common.{◌≡◌, ◌∙◌, ◌≤◌, ◌+◌, ℕ, Bool, true, false, ap, sym, subst, arith}
use Rattle.completeness.specs.Complete.{is_page_left}
use Rattle.completeness.proofs.Left.{left_next}
use Rattle.completeness.proofs.counting.count_left.Goals.{then-is_left, else-is_left}
use Rattle.completeness.proofs.counting.count_left.Goals as goal

pub loop-number-preserved : goal.loop-number-preserved
loop-number-preserved c = elim c.if-is_left.branch [
  | then-is_left w ↦ (w.count-is ∙ (ap (λ (n : ℕ). n + 1) c.loop-number.invariant.0 ∙ sym (left_next c.args.session.now c.loop-number.number true (subst (λ (m : ℕ). is_page_left c.args.session.now m ≡ true) c.new.ensures (sym c.is_left.ensures ∙ w.if-is_left.true)))), omega (arith, w.count-is, c.loop-number.invariant.1))
  | else-is_left w ↦ (w.count-is ∙ (c.loop-number.invariant.0 ∙ sym (left_next c.args.session.now c.loop-number.number false (subst (λ (m : ℕ). is_page_left c.args.session.now m ≡ false) c.new.ensures (sym c.is_left.ensures ∙ w.if-is_left.false)))), omega (arith, w.count-is, c.loop-number.invariant.1))
]
