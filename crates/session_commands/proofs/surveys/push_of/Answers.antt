use Rattle.std.proofs.lemmas.Result.{on_ok_weaker}
use Rattle.recorder_files.specs.declared.lines.Party.TheVariants.{Machine}
use Rattle.session_commands.proofs.Surveying.{taken}
use Rattle.session_commands.proofs.surveys.push_of.Goals as goal

pub returns-in-Machine : goal.returns-in-Machine
returns-in-Machine c = on_ok_weaker c.push_surveyed.result (taken c.args.file.now c.args.logs.now c.push_surveyed.new.log Machine c.as_str-path.result.now c.args.found c.in-Machine.is c.as_str-path.ensures.value) c.push_surveyed.ensures
