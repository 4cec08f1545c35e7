use Rattle.std.specs.Prelude.{◌==◌}
use Rattle.audit_model.specs.Shape.{earlier, passes}
use Rattle.session_story.specs.inner.Delivered.{AreMarked}
use Rattle.session_story.proofs.delivering.mark_delivered.Given as goal

abbrev pub invariant-loop-n : goal.invariant-loop-n
invariant-loop-n g l = AreMarked (λ m. earlier (λ r. passes (λ k. k == m) (g.D.Deliveries.delivered l.deliveries r)) l.log l.n) l.initial.marks.items l.marks.items
