use Rattle.recorder_files.proofs.OneLog.{came_is_front, one_log}
use Rattle.recorder_files.proofs.laws.files_tell_one_log.Goals as goal

pub returns : goal.returns
returns c = record { front = came_is_front; one = one_log }
