use Rattle.std.proofs.Common.{◌≡◌, take, map}
use Rattle.session_core.specs.States.{vcpu_of}
use Rattle.session_core.proofs.remaining.all_left.Given as goal

abbrev pub invariant-loop-vcpu : goal.invariant-loop-vcpu
invariant-loop-vcpu l = l.left.items ≡ map vcpu_of (take l.vcpu-index l.vcpus)
