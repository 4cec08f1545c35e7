use Rattle.std.proofs.Common.{length, take, drop, arith, length-take-le}
use Rattle.command_texts.proofs.Filling.{front_of}
use Rattle.command_texts.proofs.PiecesTaken.{first_taken, rest_taken}
use Rattle.command_texts.proofs.reading.take_text.Goals as goal

pub returns-then-filled : goal.returns-then-filled
returns-then-filled g c =
    let f = c.in_ok-filled.ensures in
    let count = c.in_ok-filled.filled.count in
    let new = c.fill.new.buffer in
    let front = front_of count c.in_ok-buffer.buffer.len new (drop (length new) c.in_ok-buffer.buffer.items) f.within (omega (arith, f.within, c.fill.auto.buffer, c.as_mut_slice.ensures.len)) in
    first_taken g.T.Taker.came _ _ _ _ (take count new) f.consumed (f.at_end c.if-filled.true) (omega (arith, length-take-le count new f.within, f.within, c.fill.auto.buffer, c.as_mut_slice.ensures.len, c.in_ok-buffer.ensures)) (rw (c.deref.ensures.value, front) at c.in_ok-take.ensures)

pub returns : goal.returns
returns g c =
    let f = c.in_ok-filled.ensures in
    let count = c.in_ok-filled.filled.count in
    let new = c.fill.new.buffer in
    let front = front_of count c.in_ok-buffer.buffer.len new (drop (length new) c.in_ok-buffer.buffer.items) f.within (omega (arith, f.within, c.fill.auto.buffer, c.as_mut_slice.ensures.len)) in
    rest_taken c.read_within.result g.T.Taker.came c.behind_first-left.result.bytes _ _ _ _ _ (take count new) f.consumed (rw (c.deref.ensures.value, front) at c.behind_first-left.ensures) (rw (c.deref.ensures.value, front) at c.in_ok-take.ensures) c.read_within.ensures
