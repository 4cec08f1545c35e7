use Rattle.target_side.proofs.Sounds.{sound_with}
use Rattle.target_side.proofs.Settling.{kept_dropped}
use Rattle.target_side.proofs.pager.PagerBook.drop_waiters.Goals as goal

pub invariant_of-self : goal.invariant_of-self
invariant_of-self c = rw (c.swap.ensures.x_after, c.in-Ok.ensures) (sound_with _ _ _ _ c.self.invariant (kept_dropped c.unsettled.result.now _ c.self.invariant.kept))
