use Rattle.std.proofs.Common.{◌≡◌}
use Rattle.audit_model.specs.Shape.{is_resume, earlier}
use Rattle.plain_audit.proofs.shape.resumed_before.Given as goal

abbrev pub invariant-loop-record : goal.invariant-loop-record
invariant-loop-record l = l.found ≡ earlier is_resume l.session.guest l.record-index
