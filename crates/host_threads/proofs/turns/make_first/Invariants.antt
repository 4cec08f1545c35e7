use Rattle.std.proofs.Common.{drop}
use Rattle.host_threads.specs.Rounds.{MakesFirst}
use Rattle.host_threads.specs.declared.turns.TurnReport.{TurnReport}
use Rattle.host_threads.proofs.turns.make_first.Given as goal

-- what comes of the events that are left is what comes of all
abbrev pub invariant-loop-event : goal.invariant-loop-event
invariant-loop-event g l = (turn : TurnReport) (new : g.row.A.Denot × g.row.B.Denot) → MakesFirst (g.M.Makes.makes l.maker) (drop l.event-index l.fn.events) turn (l.one, l.other) new → MakesFirst (g.M.Makes.makes l.fn.maker) l.fn.events turn (l.fn.one, l.fn.other) new
