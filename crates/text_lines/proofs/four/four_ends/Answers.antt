use Rattle.std.proofs.Common.{◌≡◌, ◌<◌, ◌+◌, ◌-◌, ℕ, subst, sym, arith}
use Rattle.std.specs.Int.RustNames.{bit_and}
use lib.Count.{count_trailing_zeros}
use Rattle.text_lines.specs.inner.Blocks.{AreEnds}
use Rattle.text_lines.proofs.Ends.{next_end, some_left}
use Rattle.text_lines.proofs.four.four_ends.Goals as goal

pub returns : goal.returns
returns c =
    let text = c.args.text.now in
    let m1 = c.ends_in-first.result in
    let m2 = c.without_lowest-second.result in
    let m3 = c.without_lowest-third.result in
    let m4 = c.without_lowest-fourth.result in
    let is2 : m2 ≡ bit_and m1 (m1 - 1) = c.without_lowest-second.ensures in
    let is3 : m3 ≡ bit_and m2 (m2 - 1) = c.without_lowest-third.ensures in
    let is4 : m4 ≡ bit_and m3 (m3 - 1) = c.without_lowest-fourth.ensures in
    let some4 : 0 < m4 = omega (arith, c.if-fourth-eq0.false) in
    let some3 : 0 < m3 = some_left m3 (λ none. absurd (omega (arith, is4, none))) in
    let some2 : 0 < m2 = some_left m2 (λ none. absurd (omega (arith, is3, none))) in
    let some1 : 0 < m1 = some_left m1 (λ none. absurd (omega (arith, is2, none))) in
    let one = next_end text 0 48 m1 c.ends_in-first.ensures (omega arith) some1 in
    let ends2 = subst (λ (m : ℕ). AreEnds text (count_trailing_zeros 64 m1 + 1) 48 m) (sym is2) one.later in
    let two = next_end text (count_trailing_zeros 64 m1 + 1) 48 m2 ends2 (omega arith) some2 in
    let ends3 = subst (λ (m : ℕ). AreEnds text (count_trailing_zeros 64 m2 + 1) 48 m) (sym is3) two.later in
    let three = next_end text (count_trailing_zeros 64 m2 + 1) 48 m3 ends3 (omega arith) some3 in
    let ends4 = subst (λ (m : ℕ). AreEnds text (count_trailing_zeros 64 m3 + 1) 48 m) (sym is4) three.later in
    let four = next_end text (count_trailing_zeros 64 m3 + 1) 48 m4 ends4 (omega arith) some4 in (
      record { ordered = one.ordered; within = one.within; digits = one.digits },
      record { ordered = two.ordered; within = two.within; digits = two.digits },
      record { ordered = three.ordered; within = three.within; digits = three.digits },
      record { ordered = four.ordered; within = four.within; digits = four.digits },
    )
