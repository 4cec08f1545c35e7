use Rattle.recordings.specs.Wide.{source_of}
use Rattle.walked_sessions.proofs.Meeting.{source_more}
use Rattle.walked_sessions.proofs.takers.SourceTakerRecordTakerRawSource.take.Goals as goal

pub returns-in-Ok-clause-taken : goal.returns-in-Ok-clause-taken
returns-in-Ok-clause-taken g c = λ first from records e meets. source_more g.V.Visitor.Met first c.args.self.now (record { link = c.pass.new.self }) from c.args.onto.now c.record.new.self records c.args.rec c.args.number c.in_ok-up.up (source_of c.numbered.result) c.request.result e c.request.ensures c.in_ok-up.ensures.passed c.numbered.ensures c.in-Ok.ensures meets
