use Rattle.migration_types.specs.Receipts.{logs}
use Rattle.session_core.specs.Names.{length_in, names_between}
use Rattle.std.proofs.Common.{◌+◌, ◌++◌, ◌≡◌, ◌≤◌, take, length}
use Rattle.std.specs.Prelude.{vec_capacity, vec_len, ◌-◌, ◌*◌}
use Rattle.session_core.proofs.names.push_names.Given as goal

abbrev pub invariant-loop-log : goal.invariant-loop-log
invariant-loop-log l = record {
  list : l.log-items ≡ logs;
  items : l.order.items ≡ l.initial.order.items ++ names_between (length_in l.old) (length_in l.new) (take l.log-index logs);
  room : vec_len l.order + 2 * (length logs - l.log-index) ≤ vec_capacity l.order;
}
