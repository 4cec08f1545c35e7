use Rattle.std.proofs.Common.{◌≡◌, ◌++◌, take}
use Rattle.std.specs.List.{flat_map}
use Rattle.session_answers.specs.RecordsText.{told}
use Rattle.session_answers.proofs.records.take_all.Given as goal

abbrev pub invariant-loop-part : goal.invariant-loop-part
invariant-loop-part g l = l.records.items ≡ l.fn.records.items ++ flat_map (told (g.L.Lines.tell l.lines) l.session) (take l.part-index l.parts)
