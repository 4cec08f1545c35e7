use Rattle.std.proofs.Common.{◌+◌, subst, sym, take, Some}
use Rattle.postcopy_c.specs.Questions.{AreAsked, IsAsked}
use Rattle.postcopy_c.proofs.Zipped.{next_zipped}
use Rattle.postcopy_c.proofs.asking.asked_by_all.Goals as goal

pub loop-question-preserved : goal.loop-question-preserved
loop-question-preserved c =
    subst (AreAsked (take (c.loop-question.question-index + 1) c.args.questions.now)) (sym c.in_ok-push-in-Some.ensures.items)
    (next_zipped (λ question shown_as. IsAsked question (Some shown_as)) c.args.questions.now c.loop-question.asked.items c.loop-question.question-index _ c.in-Some.shown_as c.loop-question-test.true c.loop-question.invariant c.in-Some.ensures)
