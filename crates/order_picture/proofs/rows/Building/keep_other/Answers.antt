use Rattle.std.proofs.Common.{◌∙◌, sym, inr}
use Rattle.order_picture.proofs.Built.{kept}
use Rattle.order_picture.proofs.rows.Building.keep_other.Goals as goal

pub returns-clause-built : goal.returns-clause-built
returns-clause-built c look names marked built =
    let k = c.in_ok-keep.ensures in
    kept look c.args.self.now _ names c.args.name c.args.mark built marked k.rows k.since k.folded (λ e. inr (sym c.in_ok-keep.ensures.fault_left ∙ e))
