use Rattle.std.proofs.Common.{ap, arith, length, string_bytes}
use Rattle.std.proofs.lemmas.List.{length-map}
use Rattle.session_commands.proofs.Told.{all_told, next_told, none_told}
use Rattle.session_commands.proofs.machines.take_files.Goals as goal

pub loop-place-init : goal.loop-place-init
loop-place-init g c = none_told _ _ c.in_ok-taken.ensures

pub loop-place-preserved : goal.loop-place-preserved
loop-place-preserved g c =
    let bytes = g.S.TextSource.bytes_of c.args.texts.now in
    let told = c.in_ok-take_file.ensures in
    next_told bytes (λ path. string_bytes path) c.args.log.now.paths.items c.as_slice-paths.result.now c.loop-place.place c.index-paths-place.result c.as_str.result.now c.loop-place.taken _ told.0 c.as_slice-paths.ensures.value c.loop-place-test.true c.index-paths-place.is c.as_str.ensures.value c.loop-place.invariant told.1 told.2

pub returns : goal.returns
returns g c =
    let items = c.args.log.now.paths.items in
    all_told _ c.loop-place.place c.loop-place.taken (omega (arith, length-map items (λ path. g.S.TextSource.bytes_of c.args.texts.now (string_bytes path)), ap length c.as_slice-paths.ensures.value, c.loop-place.auto.place-end, c.loop-place-test.false)) c.loop-place.invariant
