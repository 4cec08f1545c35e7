use Rattle.command_texts.proofs.Said.{given_few, given_holds}
use Rattle.judge_commands.specs.Completed.{IsAnswered}
use Rattle.judge_commands.proofs.Statuses.{answered_few}
use Rattle.judge_commands.proofs.auditing.AuditCommandOnOne.answer.Goals as goal

pub returns-clause-few : goal.returns-clause-few
returns-clause-few g c = λ text read. given_few (λ a. IsAnswered c.args.self.now.ask text a.text.items a.status) c.answered.result c.given.result (λ a. answered_few c.args.self.now.ask text a.text.items a.status) (c.answered.ensures text read) c.given.ensures.given

pub returns-clause-told : goal.returns-clause-told
returns-clause-told g c = λ text read. given_holds (λ a. IsAnswered c.args.self.now.ask text a.text.items a.status) c.answered.result c.given.result (c.answered.ensures text read) c.given.ensures.given
