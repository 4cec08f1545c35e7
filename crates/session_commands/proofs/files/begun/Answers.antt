use Rattle.std.proofs.Common.{refl}
use Rattle.session_commands.proofs.Opened.{fault_known}
use Rattle.session_commands.proofs.files.begun.Goals as goal

pub returns-in-Err-clause-refused : goal.returns-in-Err-clause-refused
returns-in-Err-clause-refused g c = (c.in-Err.fault, refl, fault_known c.args.party (g.S.TextSource.bytes_of c.args.texts.now c.args.path.now) _ c.in-Err.fault c.in-Ok.ensures.bytes c.in-Err.ensures.refused)
