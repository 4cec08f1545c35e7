use Rattle.std.proofs.Common.{sym}
use Rattle.target_side.proofs.Told.{placed_once, are_seen, of_placements, of_history}
use Rattle.target_side.proofs.target.TargetBook.keeps_history.Goals as goal

pub returns-clause-once : goal.returns-clause-once
returns-clause-once c = rw (sym c.self.view_is) (placed_once _ c.self.invariant.history.demands)

pub returns-clause-seen : goal.returns-clause-seen
returns-clause-seen c = rw (sym c.self.view_is) (are_seen _ c.self.invariant.history.demands)

pub returns-clause-looks : goal.returns-clause-looks
returns-clause-looks c = rw (sym c.self.view_is) (of_placements _ c.self.invariant.history.demands)

pub returns-clause-book : goal.returns-clause-book
returns-clause-book c = rw (sym c.self.view_is) (of_history _ _ c.self.invariant.history)
