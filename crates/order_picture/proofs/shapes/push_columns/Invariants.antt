use Rattle.std.proofs.Common.{◌≡◌, ◌++◌, drop, map}
use Rattle.std.specs.Prelude.{filter}
use Rattle.order_picture.specs.declared.shapes.Shape.TheVariants.{Column}
use Rattle.order_picture.specs.Shapes.{columns, has_column}
use Rattle.order_picture.proofs.shapes.push_columns.Given as goal

abbrev pub invariant-loop-log : goal.invariant-loop-log
invariant-loop-log l = l.shapes.items ++ map Column (filter (has_column l.session) (drop l.log-index l.log-items)) ≡ l.fn.shapes.items ++ columns l.session
