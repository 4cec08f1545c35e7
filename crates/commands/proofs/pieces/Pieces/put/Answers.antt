use Rattle.commands.proofs.Named.{nothing_named}
use Rattle.commands.specs.Saving.{name_of}
use Rattle.commands.proofs.pieces.Pieces.put.Goals as goal

pub returns-in-Ok-clause-left : goal.returns-in-Ok-clause-left
returns-in-Ok-clause-left g c = λ known text whole high. nothing_named c.args.kind c.args.status (name_of c.args.lines) (name_of c.args.self.now.name) _ text _ _ _ _ high (c.in-Ok.ensures.ok known text whole)
