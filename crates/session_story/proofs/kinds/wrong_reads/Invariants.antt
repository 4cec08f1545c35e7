use Rattle.audit_model.specs.Flat.{flat}
use Rattle.session_story.specs.inner.Cells.{IsPage}
use Rattle.session_story.specs.inner.Kinds.{IsTallyBy}
use Rattle.session_story.proofs.Faulting.{wrongly}
use Rattle.session_story.proofs.kinds.wrong_reads.Given as goal

abbrev pub invariant-loop-n : goal.invariant-loop-n
invariant-loop-n l = record {
  tally : IsTallyBy (wrongly l.session l.page) l.session.guest l.n l.tally;
  cells : IsPage l.cells.items (flat l.session l.n l.page) l.session.geometry.cells;
}
