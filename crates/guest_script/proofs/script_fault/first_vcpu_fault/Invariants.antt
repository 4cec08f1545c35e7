use Rattle.std.specs.List.{AllByRecursion}
use Rattle.std.specs.Prelude.{take}
use Rattle.guest_script.specs.Scenarios.{VcpuFits}
use Rattle.guest_script.proofs.script_fault.first_vcpu_fault.Given as goal

abbrev pub invariant-loop-number : goal.invariant-loop-number
invariant-loop-number l = AllByRecursion (VcpuFits l.version l.geometry) (take l.number l.vcpus)
