use Rattle.std.proofs.Common.{rules}
use Rattle.text_access.proofs.Fronts.{front_gains}
use Rattle.commands.proofs.Settled.{unshown}
use Rattle.commands.proofs.program.tell_words.Goals as goal

pub returns-in-Err : goal.returns-in-Err
returns-in-Err g c = unshown _ _ _ _ _ c.words.result.now (search rules) (front_gains _ _ _ c.write_or_why.ensures.front) c.tell.ensures.status c.tell.ensures.told
