use Rattle.command_texts.specs.inner.Takings.{Takes}
use Rattle.command_texts.proofs.reading.read_first.Given as goal

abbrev pub invariant-loop : goal.invariant-loop
invariant-loop g l = Takes g.T.Taker.came l.fn.most.bytes l.left.bytes (g.R.Read.remaining l.fn.reader) (g.R.Read.remaining l.reader) l.fn.taker l.taker
