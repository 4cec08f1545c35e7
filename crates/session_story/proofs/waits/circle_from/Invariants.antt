use Rattle.merge_runs.specs.Taken.{cursors_of}
use Rattle.session_story.specs.inner.Waits.{unfound}
use Rattle.session_story.proofs.Circling.{IsGoing}
use Rattle.session_story.proofs.waits.circle_from.Given as goal

abbrev pub invariant-loop-waiting : goal.invariant-loop-waiting
invariant-loop-waiting l = IsGoing l.session (cursors_of l.taken) l.fn.first l.log l.waits.items (cursors_of l.found)

abbrev pub decreases-loop-waiting : goal.decreases-loop-waiting
decreases-loop-waiting l = unfound (cursors_of l.found)
