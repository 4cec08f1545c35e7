use Rattle.std.proofs.Common.{◌≡◌, ◌++◌, drop, map}
use Rattle.std.specs.List.{enumerate_from}
use Rattle.order_picture.specs.Boxes.{row_shape, row_shapes}
use Rattle.order_picture.proofs.boxes.push_rows.Given as goal

abbrev pub invariant-loop-place : goal.invariant-loop-place
invariant-loop-place l = l.shapes.items ++ map (row_shape l.session l.amended) (enumerate_from l.place (drop l.place l.rows)) ≡ l.fn.shapes.items ++ row_shapes l.session l.amended l.rows
