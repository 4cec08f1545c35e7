use Rattle.std.proofs.Common.{ltb, w8, arith}
use Rattle.std.proofs.lemmas.Simd.{bitmask_splat}
use Rattle.text_lines.proofs.EightLaws.{small_before_is}
use Rattle.text_lines.proofs.eights.small_before.Goals as goal

pub returns : goal.returns
returns c =
    let r = small_before_is c.args.numbers _ c.trailing_ones.result c.requires (bitmask_splat w8 ltb c.args.numbers 8 10 c.requires (omega arith)) c.trailing_ones.ensures in
    record { within = r.within; small = r.small; stops = r.stops }
