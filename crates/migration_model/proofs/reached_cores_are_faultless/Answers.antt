use Rattle.migration_model.proofs.Needs.{reached_orderly}
use Rattle.migration_model.proofs.Reached.{start_reached, step_reached, reached_faultless}
use Rattle.migration_model.proofs.reached_cores_are_faultless.Goals as goal

pub returns : goal.returns
returns c = record { start = start_reached; step = step_reached; faultless = reached_faultless; orderly = reached_orderly }
