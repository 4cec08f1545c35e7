use Prim.Native.Nat.{◌+◌, ◌*◌}
use Rattle.text_lines.proofs.parts.+each.Given as goal

abbrev pub decreases-take_each : goal.decreases-take_each
decreases-take_each g l = 2 * l.parts

abbrev pub decreases-take_front : goal.decreases-take_front
decreases-take_front g l = 2 * l.before + 1
