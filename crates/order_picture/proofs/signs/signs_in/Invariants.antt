use Rattle.std.proofs.Common.{◌≡◌, ◌++◌, drop}
use Rattle.std.specs.Prelude.{filter}
use Rattle.order_picture.specs.Signs.{occurs, signs_in}
use Rattle.order_picture.proofs.signs.signs_in.Given as goal

abbrev pub invariant-loop-sign : goal.invariant-loop-sign
invariant-loop-sign l = l.found.items ++ filter (occurs l.shapes) (drop l.sign-index l.sign-items) ≡ signs_in l.shapes
