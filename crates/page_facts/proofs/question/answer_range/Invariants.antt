use Rattle.std.proofs.Common.{◌-◌, ◌≤◌}
use Rattle.page_facts.proofs.question.answer_range.Given as goal

abbrev pub invariant-loop-done : goal.invariant-loop-done
invariant-loop-done g l = let m = g.Q.Question in record {
  within : l.done ≤ l.count;
  is_answer : m.IsAnswer l.question l.session l.first l.done l.answer;
}

abbrev pub decreases-loop-done : goal.decreases-loop-done
decreases-loop-done g l = l.count - l.done
