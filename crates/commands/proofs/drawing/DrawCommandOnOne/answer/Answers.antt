use Rattle.commands.specs.Drawings.{IsDrawAnswer}
use Rattle.command_texts.proofs.Said.{given_few, given_holds}
use Rattle.commands.proofs.Drawn.{draw_few}
use Rattle.commands.proofs.drawing.DrawCommandOnOne.answer.Goals as goal

pub returns-clause-few : goal.returns-clause-few
returns-clause-few g c = λ text read. given_few (λ a. IsDrawAnswer c.args.self.now.topic text a.text.items a.status) c.draw_read.result c.given.result (λ a. draw_few c.args.self.now.topic text a.text.items a.status) (c.draw_read.ensures text read) c.given.ensures.given

pub returns-clause-told : goal.returns-clause-told
returns-clause-told g c = λ text read. given_holds (λ a. IsDrawAnswer c.args.self.now.topic text a.text.items a.status) c.draw_read.result c.given.result (c.draw_read.ensures text read) c.given.ensures.given
