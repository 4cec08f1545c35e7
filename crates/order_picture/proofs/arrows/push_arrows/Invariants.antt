use Rattle.std.proofs.Common.{◌≡◌, ◌++◌, drop}
use Rattle.std.specs.Prelude.{flat_map}
use Rattle.std.specs.List.{enumerate_from}
use Rattle.order_picture.specs.Arrows.{arrows, arrows_to}
use Rattle.order_picture.proofs.arrows.push_arrows.Given as goal

abbrev pub invariant-loop-place : goal.invariant-loop-place
invariant-loop-place l = l.shapes.items ++ flat_map (arrows_to l.session l.picture) (enumerate_from l.place (drop l.place l.picture.rows.items)) ≡ l.fn.shapes.items ++ arrows l.session l.picture
