use Rattle.std.proofs.Common.{refl}
use Rattle.merge_runs.proofs.Machines.{same_world}
use Rattle.merge_runs.proofs.moving.Moving.start.Goals as goal

pub returns-clause-world : goal.returns-clause-world
returns-clause-world c =
    let source = c.in_ok-source.ensures in
    let target = c.in_ok-target.ensures in
    same_world _ _ refl source.memory target.memory target.resident target.placed target.touched source.ledger
