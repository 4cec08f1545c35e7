use Rattle.std.proofs.Common.{◌≡◌, ◌+◌, ◌-◌, ℕ, List, take, ap, subst, ◌∙◌, arith}
use Rattle.std.specs.Str.Parse.{AllDigits, digits_value}
use Rattle.std.proofs.lemmas.Option.{IfSome_then}
use Rattle.text_lines.specs.inner.Blocks.{IsDigitStart}
use Rattle.text_lines.proofs.EightLaws.{start_next}
use Rattle.text_lines.proofs.four.long_digits.Goals as goal

pub returns : goal.returns
returns c =
    let text = c.args.text.now in
    let f = c.min-first.result in
    let s = c.min-second.result in
    let t : ℕ = c.args.count - f - s in
    let one = c.counted_digits-n.ensures in
    let two = c.counted_digits.ensures in
    let three = c.counted_digits-2.ensures in
    let first : IsDigitStart text c.counted_digits-n.result f = record { within = omega arith; digits = one.digits; value = one.value; fits = omega arith } in
    let digits2 = subst (λ (xs : List ℕ). AllDigits 10 (take s xs)) c.split_at.ensures.back two.digits in
    let value2 = two.value ∙ ap (λ (xs : List ℕ). digits_value 10 (take s xs)) c.split_at.ensures.back in
    let sum = c.in_ok-n.ensures in
    let second = start_next text c.counted_digits-n.result f c.counted_digits.result s 8 c.in_ok-n.n first (λ some. omega arith) (omega arith) digits2 value2 sum.0 sum.1 in
    let digits3 = subst (λ (xs : List ℕ). AllDigits 10 (take t xs)) c.split_at-2.ensures.back three.digits in
    let value3 = three.value ∙ ap (λ (xs : List ℕ). digits_value 10 (take t xs)) c.split_at-2.ensures.back in
    let all : f + s + t ≡ c.args.count = omega arith in
    IfSome_then c.more_than-2.result c.more_than-2.ensures (λ n h.
    subst (λ (k : ℕ). IsDigitStart text n k) all (start_next text c.in_ok-n.n (f + s) c.counted_digits-2.result t 16 n second (λ some. omega arith) (omega arith) digits3 value3 h.0 h.1))
