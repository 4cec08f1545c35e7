use Rattle.std.proofs.Common.{ℕ, ◌<◌}
use Rattle.recorder_files.specs.Gathered.{Has}
use Rattle.recorder_files.specs.inner.Turns.{AreKept, Waits}
use Rattle.recorder_files.proofs.turns.Turns.new.Given as goal

abbrev pub invariant-loop-file : goal.invariant-loop-file
invariant-loop-file l = record { kept : AreKept l.waiting; wait : (j n : ℕ) → 0 < j → j < l.file → Has l.heads j n → Waits l.waiting n j }
