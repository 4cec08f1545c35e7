use Rattle.recordings.proofs.Fitting.{recording_fits}
use Rattle.recordings.proofs.laws.recordings_fit.Goals as goal

pub returns : goal.returns
returns c = recording_fits
