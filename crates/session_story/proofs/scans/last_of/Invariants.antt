use Rattle.std.proofs.Common.{◌≡◌, ◌≤◌}
use Rattle.session_story.specs.Scans.{last_before}
use Rattle.session_story.proofs.scans.last_of.Given as goal

abbrev pub invariant-loop-left : goal.invariant-loop-left
invariant-loop-left g l = record {
  within : l.left ≤ l.fn.to;
  same : last_before (g.Q.RecordQuestion.holds l.question l.session) l.log l.left ≡ last_before (g.Q.RecordQuestion.holds l.question l.session) l.log l.fn.to;
}

abbrev pub decreases-loop-left : goal.decreases-loop-left
decreases-loop-left g l = l.left
