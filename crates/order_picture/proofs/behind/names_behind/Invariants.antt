use Rattle.std.proofs.Common.{◌≡◌, ◌++◌, drop}
use Rattle.std.specs.Prelude.{flat_map}
use Rattle.migration_types.specs.Receipts.{logs}
use Rattle.order_picture.specs.Behind.{log_behind}
use Rattle.order_picture.proofs.behind.names_behind.Given as goal

abbrev pub invariant-loop-log : goal.invariant-loop-log
invariant-loop-log l = l.names.items ++ flat_map (log_behind l.session l.picture) (drop l.log-index l.log-items) ≡ flat_map (log_behind l.session l.picture) logs
