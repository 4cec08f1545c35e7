use Rattle.walked_sessions.proofs.Recorded.{roomy}
use Rattle.walked_sessions.proofs.kept.Kept.make_room.Goals as goal

pub returns : goal.returns
returns c = λ d h. roomy c.args.self.now c.make_room.new.self d h (c.in_ok-make_room.ensures c.args.self.now.machine d.init h.init)
