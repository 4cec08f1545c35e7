use Rattle.std.proofs.Common.{◌≡◌}
use Rattle.audit_model.specs.Flat.{home}
use Rattle.plain_audit.proofs.flat.home_before.Given as goal

abbrev pub invariant-loop-record : goal.invariant-loop-record
invariant-loop-record l = l.home ≡ home l.session l.record-index
