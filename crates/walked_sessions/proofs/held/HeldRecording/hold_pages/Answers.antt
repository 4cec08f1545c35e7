use Rattle.std.proofs.Common.{map, subst, sym}
use Rattle.migration_types.specs.Sessions.{Recorded}
use Rattle.recordings.specs.Wide.{init_of}
use Rattle.walked_sessions.specs.Held.{IsHeld}
use Rattle.walked_sessions.specs.inner.Fitting.{with_pages}
use Rattle.walked_sessions.proofs.Recorded.{no_pages, one_more}
use Rattle.walked_sessions.proofs.held.HeldRecording.hold_pages.Goals as goal

pub loop-page-init : goal.loop-page-init
loop-page-init c = λ d h. subst (λ (x : Recorded). IsHeld c.args.self.now x) (sym (no_pages d)) h

pub loop-page-preserved : goal.loop-page-preserved
loop-page-preserved c = λ d h. subst (λ (x : Recorded). IsHeld c.hold_init.new.self x) (one_more d c.loop-page.yielded c.in-Some.page) (c.in_ok-hold_init.ensures (with_pages (map init_of c.loop-page.yielded) d) (c.loop-page.invariant d h))
