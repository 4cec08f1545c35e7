use Rattle.std.proofs.Common.{map}
use Rattle.std.specs.Prelude.{string_bytes}
use Rattle.session_commands.proofs.Compressing.{all_compressed, compressed_nothing, next_compressed}
use Rattle.session_commands.proofs.compressed.push_compressed.Goals as goal

pub loop-name-init : goal.loop-name-init
loop-name-init c = compressed_nothing _ c.args.folder.now (map string_bytes c.args.paths.now.items)

pub loop-name-preserved : goal.loop-name-preserved
loop-name-preserved c = next_compressed string_bytes _ c.args.folder.now _ _ _ c.args.names.now c.loop-name.name-index c.name-item.result c.as_str.result.now c.loop-name-test.true c.name-item.is c.as_str.ensures.value c.loop-name.invariant c.in_ok-push_one.ensures

pub returns : goal.returns
returns c = all_compressed string_bytes _ c.args.folder.now _ _ c.args.names.now c.loop-name.name-index c.loop-name-test.false c.loop-name.invariant
