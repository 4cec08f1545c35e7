use Rattle.std.proofs.Common.{◌≡◌, map, take}
use Rattle.host_checks.specs.Outcomes.{ops_of, asked_of}
use Rattle.host_checks.proofs.transcript.are_of_script.Given as goal

abbrev pub invariant-loop-k : goal.invariant-loop-k
invariant-loop-k l = map ops_of (take l.k l.transcripts) ≡ map asked_of (take l.k l.vcpus)
