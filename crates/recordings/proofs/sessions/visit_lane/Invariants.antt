use Rattle.std.proofs.Common.{◌≡◌, [], take}
use Rattle.migration_types.specs.Sessions.{Recorded}
use Rattle.recordings.specs.Seen.{BeforePager}
use Rattle.recordings.proofs.sessions.visit_lane.Given as goal

abbrev pub invariant-loop-i : goal.invariant-loop-i
invariant-loop-i g l = (d : Recorded) → BeforePager d → d.lane ≡ [] → g.V.Visitor.Met l.fn.visitor d → g.V.Visitor.Met l.visitor (record d { lane = take l.i l.log })
