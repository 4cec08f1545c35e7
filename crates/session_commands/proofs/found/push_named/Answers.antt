use Rattle.std.specs.Prelude.{string_bytes}
use Rattle.session_commands.proofs.Finding.{adds_nothing, all_named, next_named}
use Rattle.session_commands.proofs.found.push_named.Goals as goal

pub loop-name-init : goal.loop-name-init
loop-name-init c = adds_nothing c.args.folder.now c.args.files.now.items

pub loop-name-preserved : goal.loop-name-preserved
loop-name-preserved c = next_named string_bytes c.args.folder.now c.args.files.now.items c.loop-name.files.items c.push_file.new.files.items c.args.names.now c.loop-name.name-index c.name-item.result c.as_str.result.now c.loop-name-test.true c.name-item.is c.as_str.ensures.value c.loop-name.invariant c.in_ok-push_file.ensures

pub returns : goal.returns
returns c = all_named string_bytes c.args.folder.now c.args.files.now.items c.loop-name.files.items c.args.names.now c.loop-name.name-index c.loop-name-test.false c.loop-name.invariant
