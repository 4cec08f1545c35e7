use Rattle.std.proofs.Common.{◌≡◌, ◌++◌, drop}
use Rattle.std.specs.Prelude.{flat_map}
use Rattle.order_picture.specs.Arrows.{ties, ties_to}
use Rattle.order_picture.proofs.arrows.push_ties.Given as goal

abbrev pub invariant-loop-name : goal.invariant-loop-name
invariant-loop-name l = l.shapes.items ++ flat_map (ties_to l.picture l.behind) (drop l.name-index l.behind) ≡ l.fn.shapes.items ++ ties l.picture l.behind
