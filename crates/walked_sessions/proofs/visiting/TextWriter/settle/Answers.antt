use Rattle.walked_sessions.proofs.Lines.{ok_at}
use Rattle.walked_sessions.proofs.Pieces.{written}
use Rattle.walked_sessions.proofs.visiting.TextWriter.settle.Goals as goal

pub returns-then-len-ge-PIECE-clause-holds : goal.returns-then-len-ge-PIECE-clause-holds
returns-then-len-ge-PIECE-clause-holds g c = λ start d ok none.
    let w = c.write.ensures.written none in
    written start (g.W.Write.contents c.args.self.now.output.now) (g.W.Write.contents c.write.new.self.output.now) c.args.self.now.text.now c.write.new.self.text.now d c.write.ensures.same.0 c.write.ensures.same.1 c.write.ensures.same.2 w.0 w.1 (ok_at c.args.pushed _ c.in-Ok.is ok)
