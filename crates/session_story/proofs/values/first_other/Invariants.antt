use Rattle.std.specs.Prelude.{slice_index}
use Rattle.session_story.specs.inner.Cells.{AreSame}
use Rattle.session_story.proofs.values.first_other.Given as goal

abbrev pub invariant-loop-index : goal.invariant-loop-index
invariant-loop-index l = AreSame l.contents (slice_index l.cells) l.index
