use Rattle.walked_sessions.proofs.Pieces.{kept_gains}
use Rattle.walked_sessions.proofs.visiting.TextWriter.close.Goals as goal

pub returns-clause-gains : goal.returns-clause-gains
returns-clause-gains g c = kept_gains g.B.Begun.start (g.W.Write.contents c.args.self.output.now) c.args.self.kept
