use Rattle.walked_sessions.proofs.Pieces.{any_ok, meets_machine}
use Rattle.walked_sessions.proofs.visiting.TextWriterVisitor.machine.Goals as goal

pub returns : goal.returns
returns g c = any_ok c.settle.result (meets_machine g.B.Begun.start (g.W.Write.contents c.args.self.now.output.now) (g.W.Write.contents c.settle.new.self.output.now) g.B.Begun.front g.B.Begun.init c.args.self.now.text.now c.push_machine-pushed.new.self c.settle.new.self.text.now c.push_machine-pushed.result c.args.self.now.fault c.settle.new.self.fault c.args.machine.now c.requires.new c.push_machine-pushed.ensures (record { holds = c.settle.ensures.holds; same = c.settle.ensures.same; ok = c.settle.ensures.ok }))
