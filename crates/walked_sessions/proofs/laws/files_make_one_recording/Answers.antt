use Rattle.walked_sessions.proofs.OneRecording.{one_recording}
use Rattle.walked_sessions.proofs.laws.files_make_one_recording.Goals as goal

pub returns : goal.returns
returns c = one_recording
