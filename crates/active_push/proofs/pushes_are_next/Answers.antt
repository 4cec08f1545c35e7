use Rattle.active_push.proofs.Nearest.{choice_is}
use Rattle.active_push.proofs.pushes_are_next.Goals as goal

pub returns : goal.returns
returns c = choice_is
