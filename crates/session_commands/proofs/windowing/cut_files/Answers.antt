use Rattle.session_commands.proofs.Answered.{made_from}
use Rattle.session_commands.proofs.windowing.cut_files.Goals as goal

pub returns-in-Ok : goal.returns-in-Ok
returns-in-Ok g c = made_from (g.S.TextSource.bytes_of c.args.texts.now) c.args.logs.now c.args.known c.args.window c.in-Ok.found c.requires.known c.requires.whole c.in-Ok.ensures
