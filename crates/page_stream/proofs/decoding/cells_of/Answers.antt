use Rattle.std.proofs.Common.{ap, arith, length}
use Rattle.page_stream.proofs.Words.{length_cells}
use Rattle.page_stream.proofs.decoding.cells_of.Goals as goal

pub returns-then-bytes-count : goal.returns-then-bytes-count
returns-then-bytes-count c = λ cs fits e. absurd (omega (arith, ap length e, length_cells cs, fits.count, c.if-bytes-count.true))
