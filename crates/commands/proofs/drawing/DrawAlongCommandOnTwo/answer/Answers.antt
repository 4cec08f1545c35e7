use Rattle.commands.specs.Drawings.{IsDrawAlongAnswer}
use Rattle.command_texts.proofs.Said.{beside_few, beside_holds}
use Rattle.commands.proofs.Drawn.{draw_along_few}
use Rattle.commands.proofs.drawing.DrawAlongCommandOnTwo.answer.Goals as goal

pub returns-clause-few : goal.returns-clause-few
returns-clause-few g c = λ texts session runs. beside_few (λ a. IsDrawAlongAnswer c.args.self.now.topic texts a.text.items a.status) c.draw_along_read.result c.given_alone.result (λ a. draw_along_few c.args.self.now.topic texts a.text.items a.status) (c.draw_along_read.ensures texts.0 texts.1 session runs) c.given_alone.ensures.given

pub returns-clause-told : goal.returns-clause-told
returns-clause-told g c = λ texts session runs. beside_holds (λ a. IsDrawAlongAnswer c.args.self.now.topic texts a.text.items a.status) c.draw_along_read.result c.given_alone.result (c.draw_along_read.ensures texts.0 texts.1 session runs) c.given_alone.ensures.given
