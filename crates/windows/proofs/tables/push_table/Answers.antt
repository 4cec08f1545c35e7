use Rattle.windows.proofs.Written.{written_next}
use Rattle.windows.proofs.tables.push_table.Goals as goal

pub loop-line-preserved : goal.loop-line-preserved
loop-line-preserved c = written_next c.args.out.now.items c.args.table.now c.loop-line.line-index c.loop-line.out.items c.push_row.new.out.items c.loop-line-test.true c.loop-line.invariant c.in_ok-push_row.ensures
