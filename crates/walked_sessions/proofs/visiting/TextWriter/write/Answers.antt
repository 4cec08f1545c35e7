use Rattle.walked_sessions.proofs.Pieces.{kept_more}
use Rattle.walked_sessions.proofs.visiting.TextWriter.write.Goals as goal

pub invariant_of-self : goal.invariant_of-self
invariant_of-self g c = record { name = c.args.self.now.name; kept = kept_more g.B.Begun.start (g.W.Write.contents c.args.self.now.output.now) (g.W.Write.contents c.write.new.output) c.args.self.now.kept c.write.ensures.gains }

pub invariant_of-self-in-Err : goal.invariant_of-self-in-Err
invariant_of-self-in-Err g c = record { name = c.args.self.now.name; kept = kept_more g.B.Begun.start (g.W.Write.contents c.args.self.now.output.now) (g.W.Write.contents c.write.new.output) c.args.self.now.kept c.write.ensures.gains }
