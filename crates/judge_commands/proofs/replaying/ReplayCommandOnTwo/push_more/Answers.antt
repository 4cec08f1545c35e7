use Rattle.judge_commands.proofs.Misfits.{reason_added}
use Rattle.judge_commands.proofs.replaying.ReplayCommandOnTwo.push_more.Goals as goal

pub returns : goal.returns
returns g c = λ texts session runs said. reason_added texts c.args.name.now _ _ c.args.outcome c.push_reason.result said c.push_reason.ensures
