use Rattle.std.proofs.Common.{◌≡◌}
use Rattle.session_story.specs.Scans.{how_many}
use Rattle.session_story.proofs.scans.count_of.Given as goal

abbrev pub invariant-loop-n : goal.invariant-loop-n
invariant-loop-n g l = l.count ≡ how_many (g.Q.RecordQuestion.holds l.question l.session) l.log l.n
