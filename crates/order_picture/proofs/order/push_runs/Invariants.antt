use Rattle.std.proofs.Common.{◌≡◌, ◌≤◌, ◌++◌, take}
use Rattle.migration_types.specs.declared.records.LogName.{LogName}
use Rattle.audit_model.specs.Names.{log_length}
use Rattle.audit_model.specs.Mergings.{at_start, spelled}
use Rattle.audit_model.specs.Walks.{cursors_from}
use Rattle.merge_runs.specs.Taken.{cursors_of}
use Rattle.order_picture.proofs.order.push_runs.Given as goal

abbrev pub invariant-loop-place : goal.invariant-loop-place
invariant-loop-place l = record {
  within : (m : LogName) → cursors_of l.taken m ≤ log_length l.session m;
  at : cursors_of l.taken ≡ cursors_from at_start (spelled (take l.place l.runs));
  names : l.names.items ≡ l.fn.names.items ++ spelled (take l.place l.runs);
}
