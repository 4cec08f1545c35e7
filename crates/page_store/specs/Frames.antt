-- The frames of a machine as a memory.
use Rattle.std.specs.Prelude.{◌≡◌, ℕ, ◌+◌, ◌*◌, ◌&&◌, ◌<◌, nat_lt, List, length, slice_index, if◌then◌else◌}
use Rattle.migration_types.specs.declared.pages.InitPage.{InitPage}
use Rattle.migration_types.specs.Extents.{Extent}
use Rattle.migration_types.specs.Memory.{Memory}

-- a machine's geometry, and the values of its cells, page after page
pub record Frames : Type 0 where
  pub geometry : Extent
  pub items : List ℕ

-- the memory that frames hold, with zeros beyond the machine
abbrev pub memory_of : Frames → Memory
memory_of f page cell = if nat_lt page f.geometry.pages && nat_lt cell f.geometry.cells then slice_index f.items (page * f.geometry.cells + cell) else 0

-- a page of the machine, with a value for each of its cells
pub record IsPageOf (e : Extent) (given : InitPage) : Type 0 where
  pub page : given.page < e.pages
  pub cells : length given.cells ≡ e.cells

-- frames of the same geometry, which now hold this memory
pub record IsWith (before after : Frames) (memory : Memory) : Type 0 where
  pub geometry : after.geometry ≡ before.geometry
  pub memory_is : memory_of after ≡ memory
