use Rattle.std.proofs.Common.{◌≡◌}
use Rattle.audit_model.specs.Shape.{is_send_of, earlier}
use Rattle.plain_audit.proofs.shape.sent_before.Given as goal

abbrev pub invariant-loop-record : goal.invariant-loop-record
invariant-loop-record l = l.found ≡ earlier (is_send_of l.page) l.session.source l.record-index
