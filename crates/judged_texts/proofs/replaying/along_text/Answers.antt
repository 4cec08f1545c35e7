use Rattle.judged_texts.proofs.Outcomes.{along_of}
use Rattle.judged_texts.proofs.replaying.along_text.Goals as goal

pub returns-in-Ok : goal.returns-in-Ok
returns-in-Ok c = along_of c.args.session.now c.args.runs.now c.as_slice.result.now c.in-Ok.runs c.outcome.result c.as_slice.ensures c.in-Ok.ensures c.outcome.ensures
