use Rattle.judged_texts.proofs.Outcomes.{outcome_of}
use Rattle.judged_texts.proofs.replaying.replay_texts.Goals as goal

pub returns-in-Ok : goal.returns-in-Ok
returns-in-Ok c = outcome_of c.args.session.now c.args.runs.now c.in-Ok.recorded c.along_text.result c.in-Ok.ensures c.along_text.ensures
