use Rattle.recordings.specs.Wide.{pager_of}
use Rattle.walked_sessions.proofs.Meeting.{pager_more}
use Rattle.walked_sessions.proofs.takers.PagerTakerRecordTakerRawPager.take.Goals as goal

pub returns-in-Ok-clause-taken : goal.returns-in-Ok-clause-taken
returns-in-Ok-clause-taken g c = λ first from records e meets. pager_more g.V.Visitor.Met first c.args.self.now (record { link = c.pass_either.new.link; lane = c.pass_either.new.lane; count = c.in-Some.count }) from c.args.onto.now c.record.new.self records c.args.rec c.args.number c.in_ok-down.down (pager_of c.numbered.result) e c.in_ok-down.ensures.link c.in_ok-down.ensures.lane c.in-Some.ensures.1 c.numbered.ensures c.in-Ok.ensures meets
