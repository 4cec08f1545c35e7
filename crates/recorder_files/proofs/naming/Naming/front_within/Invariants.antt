use Rattle.recorder_files.proofs.Narrowing.{Narrows, size}
use Rattle.recorder_files.proofs.naming.Naming.front_within.Given as goal

abbrev pub invariant-loop-front : goal.invariant-loop-front
invariant-loop-front l = Narrows l.self l.fn.most l.front l.next

abbrev pub decreases-loop-front : goal.decreases-loop-front
decreases-loop-front l = size l.front
