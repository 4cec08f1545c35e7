use Rattle.std.proofs.Common.{◌≡◌}
use Rattle.audit_model.specs.Flat.{flat}
use Rattle.plain_audit.proofs.flat.flat_value.Given as goal

abbrev pub invariant-loop-record : goal.invariant-loop-record
invariant-loop-record l = l.value ≡ flat l.session l.record-index l.page l.cell
