-- What a virtual processor may do before its move, and after it.
use Rattle.migration_types.specs.Extents.{Extent}
use Rattle.migration_events.specs.declared.ops.Op.{Op}
use Rattle.migration_events.specs.Ops.{OpFits, LateOpFits, MayReleaseLate}
use Rattle.guest_script.specs.declared.vcpus.When.{When}
use Rattle.guest_script.specs.declared.vcpus.When.TheVariants.{BeforeMove, AfterMove}

-- whether a virtual processor may release pages then
abbrev pub MayRelease : When → Type 0
MayRelease BeforeMove = Unit {0}
MayRelease (AfterMove version) = MayReleaseLate version

-- the operation is on a page and a cell of the machine, and is allowed then
abbrev pub OpFitsAt : When → Extent → Op → Type 0
OpFitsAt BeforeMove e op = OpFits e op
OpFitsAt (AfterMove version) e op = LateOpFits version e op
