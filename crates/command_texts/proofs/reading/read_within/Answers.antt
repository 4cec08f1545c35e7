use Rattle.command_texts.proofs.PiecesTaken.{takes_rest}
use Rattle.command_texts.proofs.WhatIsRead.{ok_then}
use Rattle.command_texts.proofs.reading.read_within.Goals as goal

pub returns-in-Some : goal.returns-in-Some
returns-in-Some g c =
    ok_then c.read_ahead.result _ _ c.read_ahead.ensures
    (takes_rest g.T.Taker.came c.args.most.bytes c.in-Some.left.bytes _ _ _ _ _ (rw c.in-Some.is at c.in_ok-left.ensures))
