use Rattle.std.proofs.Common.{take}
use Rattle.session_story.specs.inner.Touched.{AreTouched}
use Rattle.session_story.proofs.apart.marked.Given as goal

abbrev pub invariant-loop-fault : goal.invariant-loop-fault
invariant-loop-fault l = AreTouched l.session (take l.fault-index l.faults) l.marks
