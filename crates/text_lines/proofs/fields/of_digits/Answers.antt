use Rattle.std.proofs.Common.{ℕ, List, ◌++◌, ap, sym, subst, ◌∙◌, arith}
use Rattle.std.specs.Fmt.{decimal}
use Rattle.text_lines.specs.Words.{NoDigit}
use Rattle.text_lines.proofs.Fronts.{some_digit, front_not_padded, front_found}
use Rattle.text_lines.proofs.fields.of_digits.Goals as goal
use Rattle.text_lines.proofs.fields.of_digits.Goals.{else-count-gt1-via-then-count-gt1+else-text-eq-ZERO, else-count-gt1-via-else-count-gt1}

pub returns-then-count-eq0-clause-none : goal.returns-then-count-eq0-clause-none
returns-then-count-eq0-clause-none c = λ n rest lt r e. some_digit c.args.text.now c.args.n c.args.count n rest c.requires lt r e c.if-count-eq0.true

pub returns-then-text-eq-ZERO-clause-none : goal.returns-then-text-eq-ZERO-clause-none
returns-then-text-eq-ZERO-clause-none c = λ n rest lt r e. front_not_padded c.args.text.now c.args.n c.args.count n rest c.requires lt r e (omega arith) c.if-text-eq-ZERO.true

pub returns-clause-found : goal.returns-clause-found
returns-clause-found c =
    let f = c.requires in
    let back = c.split_at.ensures.back in (
      front_found c.args.text.now c.args.n c.args.count f c.ranges.n.fits c.if-count-eq0.false (λ more.
          elim c.else-count-gt1.branch [
            | else-count-gt1-via-then-count-gt1+else-text-eq-ZERO w ↦ w.if-text-eq-ZERO.false
            | else-count-gt1-via-else-count-gt1 w ↦ absurd (omega arith)
          ]) ∙ ap (λ (t : List ℕ). decimal c.args.n ++ t) (sym back),
      subst NoDigit (sym back) f.stops,
      c.ranges.n.fits,
    )
