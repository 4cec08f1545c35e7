use Rattle.std.proofs.Common.{◌≡◌, ◌≤◌, take}
use Rattle.audit_model.specs.Mergings.{at_start}
use Rattle.audit_model.specs.Walks.{cursors_from}
use Rattle.plain_audit.proofs.merging.taken.Given as goal

abbrev pub invariant-loop-at : goal.invariant-loop-at
invariant-loop-at l = (l.count ≡ cursors_from at_start (take l.at l.order) l.log) × (l.count ≤ l.at)
