use Rattle.std.proofs.Common.{◌≤◌, ℕ, List, length, take, drop, ap, subst, ◌∙◌, arith}
use Rattle.std.specs.Str.Parse.{AllDigits, digits_value}
use Rattle.text_lines.proofs.EightLaws.{start_more}
use Rattle.text_lines.proofs.fields.more_digits.Goals as goal

pub returns-in-Some : goal.returns-in-Some
returns-in-Some c =
    let eight = c.eight_digits-more.ensures in
    let back = c.split_at.ensures.back in
    let k = c.eight_digits-more.result.1 in
    let room : k ≤ length (drop c.args.count c.args.text.now) = omega (arith, ap length back, c.if-rest-lt8.false) in
    let digits = subst (λ (rest : List ℕ). AllDigits 10 (take k rest)) back eight.digits in
    let value = eight.value ∙ ap (λ (rest : List ℕ). digits_value 10 (take k rest)) back in
    let sum = c.in-Some.ensures in
    start_more c.args.text.now c.args.n c.args.count c.eight_digits-more.result.0 k c.in-Some.sum c.requires room digits value sum.0 sum.1
