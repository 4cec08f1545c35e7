use Rattle.host_threads.specs.Fates.{line, HaveMet}
use Rattle.host_threads.proofs.lines.turn_line.Given as goal

abbrev pub invariant-loop-count : goal.invariant-loop-count
invariant-loop-count g l = HaveMet l.direction l.count (line l.fn.link.part l.fn.fates.left.now) (line l.link.part l.fates.left.now)
