use Rattle.std.proofs.Common.{◌≡◌, ℕ, List, map, take, get_or, ap, ◌∙◌, arith}
use Rattle.text_lines.specs.inner.Blocks.{digit_less}
use Rattle.text_lines.proofs.EightLaws.{number_at}
use Rattle.text_lines.proofs.eights.eight_digits.Goals as goal

pub counted_digits-requires-clause-small : goal.counted_digits-requires-clause-small
counted_digits-requires-clause-small c = λ i lt.
    let before = c.small_before-count.ensures in
    let numbers : c.numbers_of.result ≡ map digit_less (take 8 c.args.text.now) = c.numbers_of.ensures in
    omega (arith, before.small i lt, ap (λ (ns : List ℕ). get_or ns i 0) numbers ∙ number_at 8 i c.args.text.now (omega arith) (omega arith))

pub returns-clause-stops : goal.returns-clause-stops
returns-clause-stops c = λ lt.
    let before = c.small_before-count.ensures in
    let numbers : c.numbers_of.result ≡ map digit_less (take 8 c.args.text.now) = c.numbers_of.ensures in
    omega (arith, before.stops lt, ap (λ (ns : List ℕ). get_or ns c.small_before-count.result 0) numbers ∙ number_at 8 c.small_before-count.result c.args.text.now (omega arith) (omega arith))
