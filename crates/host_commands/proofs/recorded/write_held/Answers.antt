use Rattle.std.proofs.KnownBytes.{Keeps-refl}
use Rattle.host_commands.proofs.Writing.{held_written}
use Rattle.host_commands.proofs.recorded.write_held.Goals as goal

pub returns-in-Ok : goal.returns-in-Ok
returns-in-Ok g c = held_written c.in-Ok.answer c.args.answer _ _ c.written.result c.in-Ok.is c.written.ensures.status c.written.ensures.text c.written.ensures.fault c.written.ensures.front

pub returns-in-Err : goal.returns-in-Err
returns-in-Err g c = (tt, Keeps-refl _)
