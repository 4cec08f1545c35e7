use Rattle.std.proofs.Common.{◌≡◌, ℕ, List, map, take, get_or, ap, ◌∙◌, arith}
use Rattle.text_lines.specs.inner.Blocks.{digit_less}
use Rattle.text_lines.proofs.EightLaws.{number_at}
use Rattle.text_lines.proofs.four.sixteen_ends.Goals as goal

pub returns : goal.returns
returns c =
    let large = c.large_in.ensures in
    let text = c.args.text.now in
    let numbers : c.numbers_in.result ≡ map digit_less (take 16 text) = c.numbers_in.ensures in
    record {
      before = λ i lt. absurd (omega arith);
      digits = λ i from lt none. omega (arith, large.large i lt none, ap (λ (ns : List ℕ). get_or ns i 0) numbers ∙ number_at 16 i text lt (omega arith));
      fits = large.fits;
    }
