use Rattle.session_commands.proofs.Spelled.{written}
use Rattle.session_commands.proofs.making.write.Goals as goal

pub returns-in-Ok-clause-written : goal.returns-in-Ok-clause-written
returns-in-Ok-clause-written g c = written c.args.lacking (g.S.TextSource.bytes_of c.args.texts.now) c.args.logs.now c.args.known _ _ _ c.requires.known c.requires.asked c.in-Ok.ensures.written
