use Rattle.std.proofs.Common.{◌≡◌, ◌+◌, ℕ}
use Rattle.host_threads.specs.Rounds.{MakesFirst, MakesOften}
use Rattle.host_threads.specs.declared.turns.TurnReport.{TurnReport}
use Rattle.host_threads.specs.declared.turns.TurnReport.TheVariants.{Idle}
use Rattle.host_threads.proofs.turns.make_often.Given as goal

-- what comes of the rounds that are left, after the last that is told, is what comes of all
abbrev pub invariant-loop : goal.invariant-loop
invariant-loop g l = (left : ℕ) (turn : TurnReport) (new : g.row.A.Denot × g.row.B.Denot) → left + l.counter ≡ l.fn.most → MakesOften (MakesFirst (g.M.Makes.makes l.maker) l.fn.events) left l.last turn (l.one, l.other) new → MakesOften (MakesFirst (g.M.Makes.makes l.fn.maker) l.fn.events) l.fn.most Idle turn (l.fn.one, l.fn.other) new
