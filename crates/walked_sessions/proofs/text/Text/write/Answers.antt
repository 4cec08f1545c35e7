use Rattle.text_access.proofs.Fronts.{front_gains}
use Rattle.walked_sessions.proofs.text.Text.write.Goals as goal

pub returns-clause-gains : goal.returns-clause-gains
returns-clause-gains g c = front_gains (g.W.Write.contents c.args.output.now) (g.W.Write.contents c.write_or_why.new.output) c.deref.result.now c.write_or_why.ensures.front
