use Rattle.std.proofs.Common.{◌≡◌, ◌++◌, drop}
use Rattle.order_picture.specs.Shapes.{legend}
use Rattle.order_picture.proofs.shapes.push_entries.Given as goal

abbrev pub invariant-loop-sign : goal.invariant-loop-sign
invariant-loop-sign l = l.shapes.items ++ legend (drop l.sign-index l.found) ≡ l.fn.shapes.items ++ legend l.found
