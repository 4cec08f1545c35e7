use Rattle.std.proofs.Common.{take}
use Rattle.command_texts.proofs.PiecesTaken.{takes_more, takes_nothing, takes_whole}
use Rattle.command_texts.proofs.reading.read_first.Goals as goal

pub loop-init : goal.loop-init
loop-init g c = takes_nothing g.T.Taker.came _ _ _

pub loop-preserved : goal.loop-preserved
loop-preserved g c =
    takes_more g.T.Taker.came _ c.loop.left.bytes _ _ _ _ _ c.loop.taker _ (take c.in_ok-filled.filled.count c.fill.new.buffer) c.loop.invariant c.in_ok-filled.ensures.consumed (rw c.in-Some.is at c.behind.ensures) c.in_ok-take.ensures

pub returns-then-filled : goal.returns-then-filled
returns-then-filled g c =
    let f = c.in_ok-filled.ensures in
    takes_whole g.T.Taker.came _ c.in-Some.behind.bytes _ _ _ _
    (takes_more g.T.Taker.came _ c.loop.left.bytes _ _ _ _ _ c.loop.taker _ (take c.in_ok-filled.filled.count c.fill.new.buffer) c.loop.invariant f.consumed (rw c.in-Some.is at c.behind.ensures) c.in_ok-take.ensures)
    (f.at_end c.if-filled.true)
