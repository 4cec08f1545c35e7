use Rattle.session_core.specs.Cores.{books_of, machine, IsHeld, RunsTo}
use Rattle.session_core.proofs.running.step_all.Given as goal
use Rattle.std.proofs.Common.{[], take}

abbrev pub invariant-loop-event : goal.invariant-loop-event
invariant-loop-event l = IsHeld l.phase × RunsTo (take l.event-index l.events) (machine l.initial.phase []) (books_of l.phase)
