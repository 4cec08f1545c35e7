use Rattle.std.proofs.Common.{◌≡◌, [], take}
use Rattle.migration_types.specs.Sessions.{Recorded}
use Rattle.recordings.specs.Seen.{BeforeGuest}
use Rattle.recordings.proofs.sessions.visit_init.Given as goal

abbrev pub invariant-loop-i : goal.invariant-loop-i
invariant-loop-i g l = (d : Recorded) → BeforeGuest d → d.init ≡ [] → g.V.Visitor.Met l.fn.visitor d → g.V.Visitor.Met l.visitor (record d { init = take l.i l.pages })
