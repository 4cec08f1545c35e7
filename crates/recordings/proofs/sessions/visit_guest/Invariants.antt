use Rattle.std.proofs.Common.{◌≡◌, [], take}
use Rattle.migration_types.specs.Sessions.{Recorded}
use Rattle.recordings.specs.Seen.{BeforeSource}
use Rattle.recordings.proofs.sessions.visit_guest.Given as goal

abbrev pub invariant-loop-i : goal.invariant-loop-i
invariant-loop-i g l = (d : Recorded) → BeforeSource d → d.guest ≡ [] → g.V.Visitor.Met l.fn.visitor d → g.V.Visitor.Met l.visitor (record d { guest = take l.i l.log })
