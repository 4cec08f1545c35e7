use Rattle.std.proofs.Common.{ℕ, List, Option}
use Rattle.std.specs.Prelude.{nat_le}
use Rattle.recorder_files.specs.declared.lines.Party.{Party}
use Rattle.recorder_files.specs.Logs.{AreAt, AreBegun, nothing_of}
use Rattle.recorder_files.proofs.gatherers.read_first.Given as goal

abbrev pub invariant-loop-i : goal.invariant-loop-i
invariant-loop-i g l = (party : Party) (knowns : List (Option (List ℕ))) → AreBegun party knowns l.fn.files → AreAt party knowns l.files l.heads (nothing_of l.fn.files) 0 (nat_le l.i)
