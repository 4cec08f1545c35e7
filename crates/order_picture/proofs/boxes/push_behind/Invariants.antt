use Rattle.std.proofs.Common.{◌≡◌, ◌++◌, drop, map}
use Rattle.std.specs.List.{enumerate_from}
use Rattle.order_picture.specs.Boxes.{behind_shape, behind_shapes}
use Rattle.order_picture.proofs.boxes.push_behind.Given as goal

abbrev pub invariant-loop-place : goal.invariant-loop-place
invariant-loop-place l = l.shapes.items ++ map (behind_shape l.session l.amended l.picture) (enumerate_from l.place (drop l.place l.behind)) ≡ l.fn.shapes.items ++ behind_shapes l.session l.amended l.picture l.behind
