use Rattle.std.proofs.Common.{◌≡◌, take}
use Rattle.host_checks.specs.Outcomes.{ops_of}
use Rattle.host_checks.proofs.transcript.are_ops.Given as goal

abbrev pub invariant-loop-k : goal.invariant-loop-k
invariant-loop-k l = ops_of (take l.k l.transcript) ≡ take l.k l.ops
