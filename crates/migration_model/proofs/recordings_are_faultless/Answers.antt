use Rattle.migration_model.proofs.Whole.{run_is_faultless}
use Rattle.migration_model.proofs.recordings_are_faultless.Goals as goal

pub returns : goal.returns
returns c = record { faultless = run_is_faultless }
