use Rattle.std.proofs.Common.{refl}
use Rattle.order_picture.proofs.Built.{counted}
use Rattle.order_picture.proofs.rows.Building.fold.Goals as goal

pub returns-clause-built : goal.returns-clause-built
returns-clause-built c look names other built = counted look c.args.self.now _ names c.args.name built other refl c.moved-self.ensures refl refl
