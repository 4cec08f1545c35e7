use Rattle.std.proofs.Common.{◌≡◌, ◌≤◌, ◌+◌, vec_len, []}
use Rattle.host_threads.specs.Echoes.{HasCarried}
use Rattle.host_threads.proofs.carry.read_back.Given as goal

abbrev pub invariant-loop-left : goal.invariant-loop-left
invariant-loop-left g l = (l.left ≤ l.count) × (vec_len l.came + l.left ≡ vec_len l.fn.came + l.count) × HasCarried (g.L.Relay.held l.fn.relay) (g.L.Relay.held l.relay) [] l.fn.came.items l.came.items

abbrev pub decreases-loop-left : goal.decreases-loop-left
decreases-loop-left g l = l.left
