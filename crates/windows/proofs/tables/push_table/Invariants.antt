use Rattle.windows.proofs.Written.{Written}
use Rattle.windows.proofs.tables.push_table.Given as goal

abbrev pub invariant-loop-line : goal.invariant-loop-line
invariant-loop-line l = Written l.fn.out.items l.table l.line-index l.out.items
