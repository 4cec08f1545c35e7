use Rattle.std.proofs.Common.{◌≡◌, [], take}
use Rattle.migration_types.specs.Sessions.{Recorded}
use Rattle.recordings.specs.Seen.{BeforeLink}
use Rattle.recordings.proofs.sessions.visit_source.Given as goal

abbrev pub invariant-loop-i : goal.invariant-loop-i
invariant-loop-i g l = (d : Recorded) → BeforeLink d → d.source ≡ [] → g.V.Visitor.Met l.fn.visitor d → g.V.Visitor.Met l.visitor (record d { source = take l.i l.log })
