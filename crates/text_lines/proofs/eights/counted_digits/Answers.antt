use Rattle.std.proofs.Common.{◌≡◌, ◌<◌, ◌-◌, ℕ, List, length, map, take, ap, sym, ◌∙◌, arith}
use Rattle.std.specs.Int.Digits.{number_from_digits}
use Rattle.std.specs.Simd.Lanes.{number_l}
use Rattle.std.specs.Char.{digit_value}
use Rattle.std.specs.Str.Parse.{AllDigits}
use Rattle.std.specs.List.{AllByRecursion}
use Rattle.std.proofs.lemmas.List.{length-take, length-map}
use Rattle.std.proofs.lemmas.Int.Digits.{digits_value_is}
use Rattle.text_lines.specs.inner.Blocks.{digit_less, padded}
use Rattle.text_lines.proofs.EightLaws.{front_digits_are, taken_twice, padded_length, padded_digits, padded_number}
use Rattle.text_lines.proofs.eights.counted_digits.Goals as goal

found : (c : goal.After-decimal_of) → AllDigits 10 (take c.args.count c.args.text.now) × (map digit_value (take c.args.count c.args.text.now) ≡ map digit_less (take c.args.count c.args.text.now)) × AllByRecursion (λ d. d < 10) (map digit_less (take c.args.count c.args.text.now))
found c = front_digits_are c.args.count c.args.text.now (omega arith) (λ i. omega (arith, c.type_inv.text i)) c.requires.small

pub returns-clause-digits : goal.returns-clause-digits
returns-clause-digits c = (found c).0

pub returns-clause-value : goal.returns-clause-value
returns-clause-value c =
    let count = c.args.count in
    let digits = map digit_less (take count c.args.text.now) in
    let numbers : c.numbers_of.result ≡ map digit_less (take 8 c.args.text.now) = c.numbers_of.ensures in
    let front : take count c.numbers_of.result ≡ digits = ap (take count) numbers ∙ taken_twice count c.args.text.now (omega arith) in
    let word : c.front_word.result ≡ number_l 256 (padded (8 - count) digits) = c.front_word.ensures ∙ ap (λ (ds : List ℕ). number_l 256 (padded (8 - count) ds)) front in
    let long : length (padded (8 - count) digits) ≡ 8 = omega (arith, padded_length (8 - count) digits, length-map (take count c.args.text.now) digit_less, length-take count c.args.text.now) in
    c.decimal_of.ensures (padded (8 - count) digits) long (padded_digits (8 - count) digits (found c).2) word
    ∙ (padded_number (8 - count) digits ∙ (ap (number_from_digits 10) (sym (found c).1) ∙ sym (digits_value_is 10 (take count c.args.text.now))))
