use Rattle.std.proofs.Common.{ℕ, ◌-◌, List, [], Option}
use Rattle.std.specs.Prelude.{◌^◌}
use Rattle.recorder_files.specs.declared.lines.Party.{Party}
use Rattle.recorder_files.specs.Logs.{Came}
use Rattle.recorder_files.specs.inner.Noting.{Notes}
use Rattle.recorder_files.proofs.taking.take_records.Given as goal

abbrev pub invariant-records : goal.invariant-records
invariant-records g l = (party : Party) (knowns : List (Option (List ℕ))) → Came party knowns l.fn.files [] → Notes g.K.LogRecord.line (g.K.LogRecord.IsOf l.machine) g.T.RecordTaker.Takes party knowns l.files l.fn.taker l.fn.onto l.taker l.onto

abbrev pub decreases-records : goal.decreases-records
decreases-records g l = 2 ^ 64 - l.files.number
