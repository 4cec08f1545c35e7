use Rattle.std.proofs.Common.{refl}
use Rattle.recordings.specs.declared.wide.Wide.TheVariants as wide
use Rattle.walked_sessions.proofs.Meeting.{meets_more}
use Rattle.walked_sessions.proofs.takers.GuestTakerRecordTakerWideGuest.take.Goals as goal

pub returns-in-Ok-clause-taken : goal.returns-in-Ok-clause-taken
returns-in-Ok-clause-taken g c = λ first from records e meets. meets_more g.V.Visitor.Met wide.Guest from c.args.onto.now c.record.new.self records c.args.rec c.args.number _ e refl c.in-Ok.ensures meets
