use Rattle.recorder_files.proofs.Among.{cost_no_order}
use Rattle.recorder_files.proofs.laws.deliveries_cost_no_order.Goals as goal

pub returns : goal.returns
returns c = λ messages count order is. cost_no_order messages count order is
