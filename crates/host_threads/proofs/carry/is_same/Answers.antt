use Rattle.std.proofs.Common.{rules}
use Rattle.host_threads.proofs.Echoes.{same_states}
use Rattle.host_threads.proofs.carry.is_same.Goals as goal

pub returns-then-number-n : goal.returns-then-number-n
returns-then-number-n c =
    same_states c.args.one.now c.args.other.now _ _ _ _ c.eq.result c.in-State-State.is-0 c.in-State-State.is-1 (search rules) (search rules)
