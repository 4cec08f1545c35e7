use Rattle.walked_sessions.proofs.Pieces.{finished}
use Rattle.walked_sessions.proofs.visiting.TextWriter.finish.Goals as goal

pub returns-in-None : goal.returns-in-None
returns-in-None g c = λ s meets.
    finished g.B.Begun.start (g.W.Write.contents c.args.self.now.output.now) (g.W.Write.contents c.write.new.self.output.now) g.B.Begun.front g.B.Begun.init c.args.self.now.text.now c.push_end.new.self s
    (meets c.in_default.is)
    (λ before d stands. c.in_ok-push_end.ensures before d stands)
    (c.write.ensures.written c.in-None.is).0
