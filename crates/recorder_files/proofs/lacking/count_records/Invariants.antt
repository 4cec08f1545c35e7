use Rattle.std.proofs.Common.{◌≡◌, take}
use Rattle.recorder_files.specs.Lacks.{record_count}
use Rattle.recorder_files.proofs.lacking.count_records.Given as goal

abbrev pub invariant-loop-part : goal.invariant-loop-part
invariant-loop-part l = l.count ≡ record_count (take l.part-index l.parts)
