use Rattle.recorder_files.proofs.Saying.{one_thing}
use Rattle.recorder_files.proofs.laws.files_say_one_thing.Goals as goal

pub returns : goal.returns
returns c = one_thing
