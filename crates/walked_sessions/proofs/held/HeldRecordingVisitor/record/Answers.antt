use Rattle.std.proofs.Common.{Option, subst, sym}
use Rattle.recordings.specs.Seen.{with_record}
use Rattle.walked_sessions.specs.Held.{IsKeptIn}
use Rattle.walked_sessions.specs.declared.kept.Kept.{Kept}
use Rattle.walked_sessions.proofs.Recorded.{never_record, refused}
use Rattle.walked_sessions.proofs.held.HeldRecordingVisitor.record.Goals as goal

pub returns-in_default : goal.returns-in_default
returns-in_default c = λ d next h. subst (λ (k : Option Kept). IsKeptIn k d → IsKeptIn k (with_record d c.args.rec)) (sym c.in_default.is) (never_record d c.args.rec) h

pub returns-then-not-branch : goal.returns-then-not-branch
returns-then-not-branch c = λ d next h. refused _ _ c.in_ok-take.field-0 c.if-not-branch.true (c.in_ok-take.ensures d (subst (λ (k : Option Kept). IsKeptIn k d) c.in-Some.is h))
