use Rattle.std.proofs.Common.{length, take, drop, arith}
use Rattle.command_texts.proofs.Filling.{fills_written}
use Rattle.command_texts.proofs.PiecesTaken.{takes_more, takes_nothing, takes_whole}
use Rattle.command_texts.proofs.ahead.take_pieces.Goals as goal

pub loop-init : goal.loop-init
loop-init g c = record {
  mid = g.R.Read.remaining c.args.reader.now;
  taken = takes_nothing g.T.Taker.came _ _ _;
  filled = fills_written _ _ c.fill.new.buffer (drop (length c.fill.new.buffer) c.args.piece.now.items) c.args.piece.now.len _ _ (omega (arith, c.fill.auto.buffer, c.as_mut_slice.ensures.len)) c.in_ok-filled.ensures;
}

pub loop-preserved : goal.loop-preserved
loop-preserved g c =
    let i = c.loop.invariant in
    let count = c.loop.filled.count in
    record {
      mid = g.R.Read.remaining c.loop.reader;
      taken = takes_more g.T.Taker.came _ c.loop.left.bytes _ _ i.mid _ _ c.loop.taker _ (take count c.loop.piece.items) i.taken i.filled.consumed (rw c.deref.ensures.value at (rw c.in-Some.is at c.behind.ensures)) (rw c.deref.ensures.value at c.in_ok-filled-2.ensures.taken);
      filled = rw c.swap.ensures.x_after
          (fills_written _ _ c.take_and_fill.new.next (drop (length c.take_and_fill.new.next) c.loop.next.items) c.loop.next.len _ _ (omega (arith, c.take_and_fill.auto.next, c.as_mut_slice-in-loop.ensures.len)) c.in_ok-filled-2.ensures.filled);
    }

pub returns-then-filled : goal.returns-then-filled
returns-then-filled g c =
    let i = c.loop.invariant in
    let count = c.loop.filled.count in
    takes_whole g.T.Taker.came _ c.in-Some.behind.bytes _ _ _ _
    (takes_more g.T.Taker.came _ c.loop.left.bytes _ _ i.mid _ _ c.loop.taker _ (take count c.loop.piece.items) i.taken i.filled.consumed (rw c.deref.ensures.value at (rw c.in-Some.is at c.behind.ensures)) (rw c.deref.ensures.value at c.in_ok-take.ensures))
    (i.filled.at_end c.if-filled.true)
