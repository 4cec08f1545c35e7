use Rattle.std.proofs.Common.{◌≡◌, ◌-◌, ◌++◌}
use Rattle.std.specs.Prelude.{filter}
use Rattle.audit_model.specs.Mergings.{run_names}
use Rattle.audit_model.specs.Names.{log_length}
use Rattle.merge_runs.specs.Taken.{cursors_of}
use Rattle.order_picture.specs.Behind.{is_behind}
use Rattle.order_picture.proofs.behind.push_log_behind.Given as goal

abbrev pub invariant-loop-place : goal.invariant-loop-place
invariant-loop-place l = l.names.items ++ filter (is_behind l.picture) (run_names l.log l.place (log_length l.session l.log - l.place)) ≡ l.fn.names.items ++ filter (is_behind l.picture) (run_names l.log (cursors_of l.picture.taken l.log) (log_length l.session l.log - cursors_of l.picture.taken l.log))
