-- Operations of virtual processors.
use Rattle.std.specs.Prelude.{ℕ, ◌<◌, ◌^◌}
use Rattle.migration_types.specs.declared.version.Version.{Version}
use Rattle.migration_types.specs.declared.version.Version.TheVariants.{One, Two}
use Rattle.migration_types.specs.Extents.{Extent}
use Rattle.migration_types.specs.Memory.{Memory}
use Rattle.migration_events.specs.declared.ops.Op.{Op}
use Rattle.migration_events.specs.declared.ops.Op.TheVariants.{Read, Write, Release}

-- the page that an operation is on
abbrev pub page_in : Op → ℕ
page_in (Read page cell) = page
page_in (Write page cell value) = page
page_in (Release page) = page

-- the machine has the page and the cell
abbrev pub OpFits : Extent → Op → Type 0
OpFits e (Read page cell) = (page < e.pages) × (cell < e.cells)
OpFits e (Write page cell value) = (page < e.pages) × (cell < e.cells) × (value < 2 ^ 64)
OpFits e (Release page) = page < e.pages

-- whether a virtual processor may release pages after its move
abbrev pub MayReleaseLate : Version → Type 0
MayReleaseLate One = ⊥
MayReleaseLate Two = Unit {0}

-- an operation after a move: the machine has the page and the cell, and only in the second version may it be a release
abbrev pub LateOpFits : Version → Extent → Op → Type 0
LateOpFits version e (Read page cell) = OpFits e (Read page cell)
LateOpFits version e (Write page cell value) = OpFits e (Write page cell value)
LateOpFits version e (Release page) = MayReleaseLate version × OpFits e (Release page)

-- the answer to an operation on this memory: the value read, the value written, or 0
abbrev pub answer_of : Op → Memory → ℕ
answer_of (Read page cell) memory = memory page cell
answer_of (Write page cell value) memory = value
answer_of (Release page) memory = 0
