use Rattle.std.proofs.Common.{◌≡◌}
use Rattle.audit_model.specs.Flat.{freed, home, is_target}
use Rattle.session_story.specs.inner.Kinds.{IsTallyBy}
use Rattle.session_story.proofs.Faulting.{early}
use Rattle.session_story.proofs.kinds.early_accesses.Given as goal

abbrev pub invariant-loop-n : goal.invariant-loop-n
invariant-loop-n l = record {
  tally : IsTallyBy (early l.session l.page.page) l.session.guest l.n l.tally;
  late : l.late ≡ is_target (home l.session l.n);
  freed : l.freed ≡ freed l.session l.n l.page.page;
}
