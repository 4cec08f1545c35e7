use Rattle.recordings.proofs.Fitting.{is_recording}
use Rattle.recordings.proofs.laws.sessions_are_recordings.Goals as goal

pub returns : goal.returns
returns c = is_recording
