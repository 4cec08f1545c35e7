use Rattle.std.proofs.Common.{◌≡◌, ◌+◌, ◌*◌, ◌≤◌}
use Rattle.migration_types.specs.Limits.{most_pages, longest_log}
use Rattle.migration_types.specs.Receipts.{logs}
use Rattle.page_facts.proofs.judges.records_of.Given as goal

abbrev pub invariant-loop-log : goal.invariant-loop-log
invariant-loop-log l = record {
  list : l.log-items ≡ logs;
  few : l.records ≤ most_pages + l.log-index * longest_log;
}
