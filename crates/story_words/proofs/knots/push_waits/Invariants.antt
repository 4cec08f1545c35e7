use Rattle.std.proofs.Common.{◌≡◌, ◌++◌}
use Rattle.story_words.specs.Sentences.{waits_told}
use Rattle.story_words.proofs.Knotting.{told_from}
use Rattle.story_words.proofs.knots.push_waits.Given as goal

abbrev pub invariant-loop-index : goal.invariant-loop-index
invariant-loop-index l = l.out.items ++ told_from l.knot l.index ≡ l.initial.out.items ++ waits_told l.knot 0 l.knot.waits.items
