use Rattle.std.proofs.Common.{◌≡◌}
use Rattle.session_story.specs.Subjects.{page_of, page_within}
use Rattle.session_story.proofs.subjects.page_of.Given as goal

abbrev pub invariant-loop-steps : goal.invariant-loop-steps
invariant-loop-steps l = page_within l.steps l.session l.at ≡ page_of l.session l.fn.name

abbrev pub decreases-loop-steps : goal.decreases-loop-steps
decreases-loop-steps l = l.steps
