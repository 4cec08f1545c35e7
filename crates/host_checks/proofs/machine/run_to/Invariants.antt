use Rattle.flat_machine.specs.Machines.{IsFlat}
use Rattle.host_checks.proofs.machine.run_to.Given as goal

abbrev pub invariant-loop-n : goal.invariant-loop-n
invariant-loop-n l = IsFlat l.session l.n l.machine
