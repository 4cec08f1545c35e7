use Rattle.recorder_files.proofs.InTurn.{gathered_from, one_log}
use Rattle.recorder_files.proofs.turns.turns_gather.Goals as goal

pub returns : goal.returns
returns g c = record { gathered = gathered_from 0; one = one_log }
