use Rattle.std.proofs.Common.{[], ◌∷◌, ◌++◌}
use Rattle.walked_sessions.proofs.Meeting.{carrier_more, meets_more}
use Rattle.walked_sessions.proofs.takers.CarrierTakerRecordTaker.take.Goals as goal

pub returns-in-Ok-clause-taken : goal.returns-in-Ok-clause-taken
returns-in-Ok-clause-taken g c = λ first from records e meets.
    carrier_more g.V.Visitor.Met g.K.CarrierRecord.wide first c.args.self.now from c.args.onto.now c.record.new.self records (records ++ c.args.rec ∷ []) c.if-self.false meets (meets_more g.V.Visitor.Met g.K.CarrierRecord.wide from c.args.onto.now c.record.new.self records c.args.rec c.args.number c.wide.result e c.wide.ensures c.in-Ok.ensures meets.met)
