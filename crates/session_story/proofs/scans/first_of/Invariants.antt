use Rattle.std.proofs.Common.{◌≡◌, None}
use Rattle.page_facts.specs.Tables.{first_before}
use Rattle.session_story.proofs.scans.first_of.Given as goal

abbrev pub invariant-loop-n : goal.invariant-loop-n
invariant-loop-n g l = first_before (g.Q.RecordQuestion.holds l.question l.session) l.log l.n ≡ None
