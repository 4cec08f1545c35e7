use Rattle.std.proofs.Common.{◌≡◌}
use Rattle.audit_model.specs.Shape.{is_halt, earlier}
use Rattle.plain_audit.proofs.shape.halted_before.Given as goal

abbrev pub invariant-loop-record : goal.invariant-loop-record
invariant-loop-record l = l.found ≡ earlier is_halt l.session.guest l.record-index
