use Rattle.std.proofs.Common.{List, ℕ}
use Rattle.std.specs.Prelude.{Option}
use Rattle.command_texts.specs.inner.Takings.{Fills, Takes}
use Rattle.command_texts.proofs.ahead.take_pieces.Given as goal

abbrev pub invariant-loop : goal.invariant-loop
invariant-loop g l =
    let remaining = g.R.Read.remaining in
    record {
      mid : Option (List ℕ);
      taken : Takes g.T.Taker.came l.fn.most.bytes l.left.bytes (remaining l.fn.reader) mid l.fn.taker l.taker;
      filled : Fills mid (remaining l.reader) l.piece.items l.filled.count l.filled.ended;
    }
