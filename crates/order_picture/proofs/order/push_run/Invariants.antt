use Rattle.std.proofs.Common.{◌≡◌, ◌++◌}
use Rattle.audit_model.specs.Mergings.{run_names}
use Rattle.order_picture.proofs.order.push_run.Given as goal

abbrev pub invariant-loop-k : goal.invariant-loop-k
invariant-loop-k l = l.names.items ≡ l.fn.names.items ++ run_names l.log l.from l.k
