use Rattle.migration_model.proofs.WorkedRuns.{some_run_is_done}
use Rattle.migration_model.proofs.premises_can_be_met.Goals as goal

pub returns : goal.returns
returns c = some_run_is_done
