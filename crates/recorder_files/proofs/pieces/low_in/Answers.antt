use Rattle.std.proofs.Common.{◌≡◌, ltb, length, length-take, take, w8, arith}
use Rattle.std.proofs.lemmas.Simd.{bitmask_splat}
use Rattle.recorder_files.proofs.Near.{low_fits, low_from}
use Rattle.recorder_files.proofs.pieces.low_in.Goals as goal

pub returns-clause-fits : goal.returns-clause-fits
returns-clause-fits c =
    let bytes = take 32 c.args.bytes.now in
    let long : length bytes ≡ 32 = omega (arith, c.requires, length-take 32 c.args.bytes.now) in
    low_fits bytes _ long (bitmask_splat w8 ltb bytes 32 11 long (omega arith))

pub returns-clause-high : goal.returns-clause-high
returns-clause-high c =
    let bytes = take 32 c.args.bytes.now in
    let long : length bytes ≡ 32 = omega (arith, c.requires, length-take 32 c.args.bytes.now) in
    low_from c.args.bytes.now _ c.requires (bitmask_splat w8 ltb bytes 32 11 long (omega arith))
