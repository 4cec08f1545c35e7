use Rattle.std.proofs.Common.{◌≡◌, ◌+◌, ◌*◌, ◌%◌, ◌^◌, ℕ, List, drop, subst, arith}
use Rattle.text_lines.specs.inner.Blocks.{AreEnds}
use Rattle.text_lines.proofs.Ends.{both_ends}
use Rattle.text_lines.proofs.four.ends_in.Goals as goal

pub returns : goal.returns
returns c =
    let text = c.args.text.now in
    let a = c.sixteen_ends.result in
    let b = c.sixteen_ends-2.result in
    let d = c.sixteen_ends-3.result in
    let first = c.sixteen_ends.ensures in
    let second : AreEnds (drop 16 text) 0 16 b = subst (λ (t : List ℕ). AreEnds t 0 16 b) c.split_at.ensures.back c.sixteen_ends-2.ensures in
    let third : AreEnds (drop 32 text) 0 16 d = subst (λ (t : List ℕ). AreEnds t 0 16 d) c.split_at-2.ensures.back c.sixteen_ends-3.ensures in
    let both = both_ends text 16 16 a b first second in
    let all = both_ends text 32 16 (b * 2 ^ 16 + a) d both third in
    let one = first.fits in
    let two = second.fits in
    let three = third.fits in
    let same : d * 2 ^ 32 + (b * 2 ^ 16 + a) ≡ a + b * 65536 % 18446744073709551616 + d * 4294967296 % 18446744073709551616 = omega arith in
    subst (λ (ends : ℕ). AreEnds text 0 48 ends) same all
