use Rattle.std.proofs.Common.{◌<◌}
use Rattle.std.proofs.lemmas.Result.{IfOk-weaker}
use Rattle.judged_texts.specs.Replayed.{IsOutcome}
use Rattle.command_texts.proofs.Said.{given_holds}
use Rattle.judge_commands.specs.Replayed.{IsReplayAnswer}
use Rattle.judge_commands.proofs.Statuses.{replay_few}
use Rattle.judge_commands.proofs.replaying.ReplayCommandOnTwo.answer.Goals as goal

pub returns-clause-few : goal.returns-clause-few
returns-clause-few g c = λ texts session runs. given_holds (λ replayed. replayed.0.status < 2) c.replay_read.result c.given.result (IfOk-weaker c.replay_read.result _ _ (λ replayed is. replay_few texts replayed.0.text.items replayed.0.status is) (c.replay_read.ensures.told texts.0 texts.1 session runs)) c.given.ensures.given

pub returns-clause-told : goal.returns-clause-told
returns-clause-told g c = λ texts session runs. given_holds (λ replayed. IsReplayAnswer texts.0 texts.1 replayed.0.text.items replayed.0.status) c.replay_read.result c.given.result (c.replay_read.ensures.told texts.0 texts.1 session runs) c.given.ensures.given

pub returns-clause-said : goal.returns-clause-said
returns-clause-said g c = λ texts session runs. given_holds (λ replayed. IsOutcome texts.0 texts.1 replayed.1) c.replay_read.result c.given.result (c.replay_read.ensures.right texts.0 texts.1 session runs) c.given.ensures.given
