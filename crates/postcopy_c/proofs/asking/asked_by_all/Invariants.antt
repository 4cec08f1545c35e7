use Rattle.std.proofs.Common.{take}
use Rattle.postcopy_c.specs.Questions.{AreAsked}
use Rattle.postcopy_c.proofs.asking.asked_by_all.Given as goal

abbrev pub invariant-loop-question : goal.invariant-loop-question
invariant-loop-question l = AreAsked (take l.question-index l.questions) l.asked.items
