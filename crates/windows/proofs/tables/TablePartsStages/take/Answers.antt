use Rattle.windows.proofs.Written.{no_number}
use Rattle.windows.proofs.tables.TablePartsStages.take.Goals as goal

pub returns-in_default-clause-refused : goal.returns-in_default-clause-refused
returns-in_default-clause-refused c = λ _ b. no_number c.args.self.now c.args.line.now c.in_default.ensures b
