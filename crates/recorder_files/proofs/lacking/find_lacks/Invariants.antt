use Rattle.std.proofs.Common.{◌≡◌, ◌++◌, take, drop}
use Rattle.recorder_files.specs.Lacks.{lacks, lacks_behind}
use Rattle.recorder_files.proofs.lacking.find_lacks.Given as goal

abbrev pub invariant-loop-at : goal.invariant-loop-at
invariant-loop-at l = l.lacks.items ++ lacks_behind (take l.at l.parts) (drop l.at l.parts) ≡ lacks l.parts
