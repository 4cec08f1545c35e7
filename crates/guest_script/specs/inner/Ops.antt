-- Operations of a line, before a move or after it.
use Rattle.std.specs.Prelude.{◌≡◌, ℕ, List, [], ◌∷◌, ◌++◌}
use Rattle.migration_types.specs.Extents.{Extent}
use Rattle.migration_events.specs.declared.ops.Op.{Op}
use Rattle.guest_script.specs.declared.vcpus.When.{When}
use Rattle.guest_script.specs.Moments.{OpFitsAt}
use Rattle.guest_script.specs.Scripts.{op_line}

-- an operation that fits and has this line was read
pub record TakesOp (when : When) (e : Extent) (old new : List Op) (line : List ℕ) : Type 0 where
  pub op : Op
  pub grown : new ≡ old ++ op ∷ []
  pub fits : OpFitsAt when e op
  pub spelled : line ≡ op_line op
