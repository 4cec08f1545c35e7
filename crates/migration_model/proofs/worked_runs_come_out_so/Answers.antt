use Rattle.migration_model.proofs.FullLogs.{refused_when_full}
use Rattle.migration_model.proofs.WorkedRuns.{runs_come_out, source_worked, woken_of_two}
use Rattle.migration_model.proofs.worked_runs_come_out_so.Goals as goal

pub returns : goal.returns
returns c = record { runs = runs_come_out; woken = woken_of_two; source = source_worked; full = refused_when_full }
