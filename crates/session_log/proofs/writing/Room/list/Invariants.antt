use Rattle.std.proofs.Common.{◌∷◌, ◌++◌, length, map, take}
use Rattle.std.specs.Fmt.{decimal}
use Rattle.text_lines.specs.Text.{ended}
use Rattle.session_log.specs.inner.Rooms.{AreBehind}
use Rattle.session_log.proofs.writing.Room.list.Given as goal

abbrev pub invariant-loop-item : goal.invariant-loop-item
invariant-loop-item g l = AreBehind (g.W.Write.contents l.fn.output) (g.W.Write.contents l.output) l.self.bytes.items (l.fn.self.bytes.items ++ ended ((l.key ++ decimal (length l.items)) ∷ map g.F.LineForm.spell (take l.item-index l.items)))
