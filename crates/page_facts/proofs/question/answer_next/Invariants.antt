use Rattle.std.proofs.Common.{◌≡◌, ℕ, ◌+◌}
use Rattle.page_facts.proofs.question.answer_next.Given as goal

abbrev pub invariant-loop-index : goal.invariant-loop-index
invariant-loop-index g l =
    let m = g.Q.Question in
    (first before : ℕ) → l.next ≡ first + before → m.IsAnswer l.question l.session first before l.fn.answer → m.IsAnswer l.question l.session first (before + l.index) l.answer
