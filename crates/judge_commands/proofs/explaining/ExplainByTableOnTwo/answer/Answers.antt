use Rattle.judge_commands.specs.ByTables.{IsExplainedByTable}
use Rattle.command_texts.proofs.Said.{beside_few, beside_holds}
use Rattle.judge_commands.proofs.Statuses.{explained_few}
use Rattle.judge_commands.proofs.explaining.ExplainByTableOnTwo.answer.Goals as goal

pub returns-clause-few : goal.returns-clause-few
returns-clause-few g c = λ texts session table. beside_few (λ a. IsExplainedByTable c.args.self.now.story c.args.self.now.complete texts a.text.items a.status) c.explained_by.result c.given_alone.result (λ a. explained_few c.args.self.now.story c.args.self.now.complete texts a.text.items a.status) (c.explained_by.ensures texts.0 texts.1 session table) c.given_alone.ensures.given

pub returns-clause-told : goal.returns-clause-told
returns-clause-told g c = λ texts session table. beside_holds (λ a. IsExplainedByTable c.args.self.now.story c.args.self.now.complete texts a.text.items a.status) c.explained_by.result c.given_alone.result (c.explained_by.ensures texts.0 texts.1 session table) c.given_alone.ensures.given
