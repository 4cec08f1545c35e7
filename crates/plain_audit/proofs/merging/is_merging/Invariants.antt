use Rattle.std.proofs.Common.{take}
use Rattle.audit_model.specs.Mergings.{at_start}
use Rattle.audit_model.specs.Walks.{Walks}
use Rattle.plain_audit.proofs.merging.is_merging.Given as goal

abbrev pub invariant-loop-at : goal.invariant-loop-at
invariant-loop-at l = Walks l.session at_start (take l.at l.order)
