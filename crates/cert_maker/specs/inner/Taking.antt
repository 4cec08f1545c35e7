-- Runs that take records.
use Rattle.std.specs.Prelude.{◌≤◌, List}
use Rattle.std.specs.List.{AllByRecursion}
use Rattle.migration_types.specs.declared.cert.Run.{Run}

-- each of the runs takes a record
abbrev pub TakeRecords : List Run → Type 0
TakeRecords runs = AllByRecursion (λ run. 1 ≤ run.count) runs
