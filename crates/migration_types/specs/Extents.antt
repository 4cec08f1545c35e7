-- The limits of a machine's geometry.
use Rattle.std.specs.Prelude.{◌≡◌, ℕ, ◌*◌, ◌<◌, ◌≤◌, ◌⊎◌}
use Rattle.migration_types.specs.declared.size.Size.{Size}
use Rattle.migration_types.specs.declared.size.Limits.{Limits}
use Rattle.migration_types.specs.Limits.{limits, most_pages, most_cells, most_cells_in_all}
use Rattle.migration_types.specs.declared.geometry.GeometryFault.{GeometryFault}
use Rattle.migration_types.specs.declared.geometry.GeometryFault.TheVariants.{Pages, Cells, TooMany}

-- a machine's size, how many pages it has, and how many cells each page has
pub record Extent : Type 0 where
  pub size : Size
  pub pages : ℕ
  pub cells : ℕ

-- a machine is within these limits
pub record IsWithin (l : Limits) (e : Extent) : Type 0 where
  pub pages : e.pages ≤ l.pages
  pub cells : e.pages * e.cells ≤ l.cells

-- a machine is within the limits of its size, and these are within the greatest limits
pub record IsExtent (e : Extent) : Type 0 where
  pub some_pages : 1 ≤ e.pages
  pub few_pages : e.pages ≤ most_pages
  pub some_cells : 1 ≤ e.cells
  pub few_cells : e.cells ≤ most_cells
  pub few_in_all : e.pages * e.cells ≤ most_cells_in_all
  pub own : IsWithin (limits e.size) e

-- the first limit of this size that these numbers miss
abbrev pub IsGeometryFault : Size → ℕ → ℕ → GeometryFault → Type 0
IsGeometryFault size pages cells Pages = (pages ≡ 0) ⊎ ((limits size).pages < pages)
IsGeometryFault size pages cells Cells = (1 ≤ pages) × (pages ≤ (limits size).pages) × ((cells ≡ 0) ⊎ (most_cells < cells))
IsGeometryFault size pages cells TooMany = (1 ≤ pages) × (pages ≤ (limits size).pages) × (1 ≤ cells) × (cells ≤ most_cells) × ((limits size).cells < pages * cells)
