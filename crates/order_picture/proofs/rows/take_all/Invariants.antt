use Rattle.std.proofs.Common.{◌+◌, ◌*◌, ◌≤◌, length, take}
use Rattle.order_picture.specs.Marks.{mark_of}
use Rattle.order_picture.specs.inner.Built.{HasCertainBelow, IsBuilt, certain_left}
use Rattle.order_picture.proofs.rows.take_all.Given as goal

abbrev pub invariant-loop-n : goal.invariant-loop-n
invariant-loop-n l = record {
  built : IsBuilt (mark_of l.session l.focus) l.building (take l.n l.order);
  few : length l.building.rows.items + l.building.room + 2 * l.building.fault_left + 2 * certain_left l.certain.fault l.certain.cause l.certain.against l.n ≤ length l.fn.building.rows.items + l.fn.building.room + 2 * l.fn.building.fault_left + 8;
  certain : HasCertainBelow l.certain.fault l.certain.cause l.certain.against l.building.rows.items l.order l.n;
}
