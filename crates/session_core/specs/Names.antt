-- The names by which the recorded order grows, given the lengths of the logs.
use Rattle.std.specs.Prelude.{ℕ, ◌-◌, List, [], ◌∷◌, ◌++◌, slice_index}
use Rattle.migration_types.specs.Receipts.{Name, log_index}
use Rattle.migration_types.specs.declared.records.LogName.{LogName}
use Rattle.audit_model.specs.Mergings.{run_names}

-- how many records a log has, given the lengths of all logs in their order
abbrev pub length_in : List ℕ → LogName → ℕ
length_in lengths log = slice_index lengths (log_index log)

-- the names of the new records of these logs, one log after another
abbrev pub names_between : (LogName → ℕ) → (LogName → ℕ) → List LogName → List Name
names_between old new [] = []
names_between old new (log ∷ logs) = run_names log (old log) (new log - old log) ++ names_between old new logs
