use Rattle.std.proofs.Common.{◌≡◌, ◌+◌, length, vec_len}
use Rattle.host_threads.proofs.Carrying.{Through}
use Rattle.host_threads.proofs.carry.carry.Given as goal

abbrev pub invariant-loop-rest : goal.invariant-loop-rest
invariant-loop-rest g l =
    (vec_len l.came + length l.rest ≡ vec_len l.fn.came + length l.fn.bytes)
    × Through (g.L.Relay.held l.fn.relay) (g.L.Relay.held l.relay) l.fn.bytes l.rest l.fn.came.items l.came.items

abbrev pub decreases-loop-rest : goal.decreases-loop-rest
decreases-loop-rest g l = length l.rest
