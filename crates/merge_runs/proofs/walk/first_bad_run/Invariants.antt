use Rattle.std.proofs.Common.{◌≡◌, ◌≤◌, take}
use Rattle.migration_types.specs.declared.records.LogName.{LogName}
use Rattle.audit_model.specs.Names.{log_length}
use Rattle.audit_model.specs.Mergings.{at_start, spelled}
use Rattle.audit_model.specs.Walks.{Walks, cursors_from}
use Rattle.merge_runs.specs.Taken.{cursors_of}
use Rattle.merge_runs.proofs.walk.first_bad_run.Given as goal

abbrev pub invariant-loop-place : goal.invariant-loop-place
invariant-loop-place l = record {
  within : (m : LogName) → cursors_of l.taken m ≤ log_length l.session m;
  at : cursors_of l.taken ≡ cursors_from at_start (spelled (take l.place l.runs));
  walked : Walks l.session at_start (spelled (take l.place l.runs));
}
