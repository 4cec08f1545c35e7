use Rattle.audit_model.specs.Flat.{flat}
use Rattle.session_story.specs.inner.Cells.{IsPage}
use Rattle.session_story.proofs.values.cells_before.Given as goal

abbrev pub invariant-loop-n : goal.invariant-loop-n
invariant-loop-n l = IsPage l.cells.items (flat l.session l.n l.page) l.session.geometry.cells
