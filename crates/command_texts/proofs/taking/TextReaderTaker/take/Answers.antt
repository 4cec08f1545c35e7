use Rattle.std.proofs.Common.{refl}
use Rattle.command_texts.proofs.taking.TextReaderTaker.take.Goals as goal

pub returns-in-Ok : goal.returns-in-Ok
returns-in-Ok g c = c.in-Ok.ensures.came refl

pub returns-in_ok-_line-in-Err : goal.returns-in_ok-_line-in-Err
returns-in_ok-_line-in-Err g c = (c.in-Err.ensures.refused c.in_ok-_line-in-Err.ensures.1).1
