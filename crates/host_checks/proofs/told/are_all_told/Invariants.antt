use Rattle.std.proofs.Common.{◌≡◌, ℕ, ◌<◌, [], length, get_or}
use Rattle.host_checks.proofs.told.are_all_told.Given as goal

abbrev pub invariant-loop-vcpu : goal.invariant-loop-vcpu
invariant-loop-vcpu l = (v : ℕ) → v < l.vcpu → get_or l.told v 0 ≡ length (get_or l.transcripts v [])
