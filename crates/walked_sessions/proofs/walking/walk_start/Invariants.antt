use Rattle.std.proofs.Common.{take}
use Rattle.walked_sessions.specs.inner.Meeting.{begun_with}
use Rattle.walked_sessions.proofs.walking.walk_start.Given as goal

abbrev pub invariant-loop-i : goal.invariant-loop-i
invariant-loop-i g l = g.V.Visitor.Met l.visitor (begun_with l.machine (take l.i l.init))
