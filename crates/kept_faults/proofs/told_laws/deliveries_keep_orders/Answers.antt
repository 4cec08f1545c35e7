use Rattle.kept_faults.proofs.Told.{keeps_order, keeps_order_in_front}
use Rattle.kept_faults.proofs.told_laws.deliveries_keep_orders.Goals as goal

pub returns : goal.returns
returns c = record {
  whole = λ machine initial bytes s made order is. keeps_order made order is;
  cut = λ machine initial bytes s made c order front is. keeps_order_in_front made c front order is;
}
