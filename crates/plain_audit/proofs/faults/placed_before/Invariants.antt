use Rattle.std.proofs.Common.{◌≡◌}
use Rattle.audit_model.specs.Shape.{is_placement_of, earlier}
use Rattle.plain_audit.proofs.faults.placed_before.Given as goal

abbrev pub invariant-loop-n : goal.invariant-loop-n
invariant-loop-n l = l.found ≡ earlier (is_placement_of l.page) l.session.pager l.n
