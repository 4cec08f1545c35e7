use Rattle.std.specs.List.{AllByRecursion}
use Rattle.std.specs.Prelude.{take}
use Rattle.guest_script.specs.Moments.{OpFitsAt}
use Rattle.guest_script.proofs.script_fault.first_wrong_op.Given as goal

abbrev pub invariant-loop-place : goal.invariant-loop-place
invariant-loop-place l = AllByRecursion (OpFitsAt l.when l.geometry) (take l.place l.ops)
