use Rattle.std.proofs.Common.{◌≡◌}
use Rattle.migration_types.specs.Receipts.{logs}
use Rattle.cert_check.proofs.FirstOfAll.{AreRightLogs, IsBefore}
use Rattle.cert_check.proofs.shape_fault.shape.Given as goal

abbrev pub invariant-loop-log : goal.invariant-loop-log
invariant-loop-log l = record {
  list : l.log-items ≡ logs;
  right : AreRightLogs l.session l.log-index;
  before : IsBefore l.session l.log-index l.pass;
}
