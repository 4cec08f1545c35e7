use Rattle.std.proofs.Common.{rules, arith}
use Rattle.host_threads.proofs.Carrying.{splits, through_more}
use Rattle.host_threads.proofs.carry.carry.Goals as goal

pub loop-rest-preserved : goal.loop-rest-preserved
loop-rest-preserved g c =
    (search rules, through_more _ _ _ _ _ _ _ _ _ _ _ c.loop-rest.invariant.1 c.in-Ok.ensures c.in_ok-read_back.ensures.came (splits _ _ _ _ (grind arith) (grind arith)))
