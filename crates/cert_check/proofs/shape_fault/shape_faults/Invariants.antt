use Rattle.std.proofs.Common.{◌≡◌}
use Rattle.migration_types.specs.Receipts.{logs}
use Rattle.cert_check.specs.inner.FaultsUpTo.{AreFaultsAmong, IsInLogs}
use Rattle.cert_check.proofs.FirstOfAll.{IsBefore}
use Rattle.cert_check.proofs.shape_fault.shape_faults.Given as goal

abbrev pub invariant-loop-log : goal.invariant-loop-log
invariant-loop-log l = record {
  list : l.log-items ≡ logs;
  found : AreFaultsAmong (IsInLogs l.log-index) l.session l.found.items;
  before : IsBefore l.session l.log-index l.pass;
}
