use Rattle.std.proofs.Common.{◌≡◌}
use Rattle.audit_model.specs.Flat.{in_ledger}
use Rattle.plain_audit.proofs.flat.is_released.Given as goal

abbrev pub invariant-loop-record : goal.invariant-loop-record
invariant-loop-record l = l.released ≡ in_ledger l.session l.record-index l.page
