use Rattle.audit_model.specs.Mergings.{run_names}
use Rattle.std.proofs.Common.{◌+◌, ◌++◌, ◌≡◌, ◌≤◌}
use Rattle.std.specs.Prelude.{vec_capacity, vec_len, ◌-◌}
use Rattle.session_core.proofs.names.push_run.Given as goal

abbrev pub invariant-loop-place : goal.invariant-loop-place
invariant-loop-place l = record {
  items : l.order.items ≡ l.initial.order.items ++ run_names l.log l.from (l.place - l.from);
  len : vec_len l.order ≡ vec_len l.initial.order + (l.place - l.from);
  capacity : vec_capacity l.order ≡ vec_capacity l.initial.order;
  within : l.place - l.from ≤ l.to - l.from;
}
