use Rattle.std.proofs.Common.{◌≡◌}
use Rattle.audit_model.specs.Faults.{has_looked}
use Rattle.plain_audit.proofs.faults.has_looked.Given as goal

abbrev pub invariant-loop-record : goal.invariant-loop-record
invariant-loop-record l = l.found ≡ has_looked l.session l.page l.record-index
