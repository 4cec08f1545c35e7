use Rattle.std.proofs.Common.{◌≡◌, ℕ, List, [], ◌++◌, Option}
use Rattle.std.specs.Prelude.{map}
use Rattle.recorder_files.specs.declared.lines.Party.TheVariants.{Machine}
use Rattle.recorder_files.specs.Said.{CameTo}
use Rattle.recorder_files.specs.Machine.{numbered_line, AreMachineRecs}
use Rattle.recorder_files.specs.declared.machine_log.MachineEntry.{MachineEntry}
use Rattle.recorder_files.proofs.machine_log.take_entries.Given as goal

abbrev pub invariant-records : goal.invariant-records
invariant-records g l = AreMachineRecs l.entries.items × ((known : Option (List ℕ)) → CameTo Machine known l.fn.file [] → (more : List MachineEntry) × CameTo Machine known l.file (map numbered_line more) × AreMachineRecs more × (l.entries.items ≡ l.fn.entries.items ++ more))
