use Rattle.std.proofs.Common.{Option, subst, sym}
use Rattle.recordings.specs.Seen.{with_init}
use Rattle.recordings.specs.Wide.{init_of}
use Rattle.walked_sessions.specs.Held.{IsKeptIn}
use Rattle.walked_sessions.specs.declared.kept.Kept.{Kept}
use Rattle.walked_sessions.proofs.Recorded.{init_refused, never_init, refused}
use Rattle.walked_sessions.proofs.held.HeldRecording.hold_init.Goals as goal

pub returns-in_default : goal.returns-in_default
returns-in_default c = λ d h. subst (λ (k : Option Kept). IsKeptIn k d → IsKeptIn k (with_init d (init_of c.args.page))) (sym c.in_default.is) (λ never. never_init d (init_of c.args.page) never) h

pub returns-then-not-branch : goal.returns-then-not-branch
returns-then-not-branch c = λ d h.
    let kept = subst (λ (k : Option Kept). IsKeptIn k d) c.in-Some.is h in
    init_refused c.in-Some.kept.machine d (init_of c.args.page) kept.machine (refused _ _ c.in_ok-take.field-0 c.if-not-branch.true (c.in_ok-take.ensures d.init kept.init))
