-- What a line says of a machine's size.
use Rattle.std.proofs.Common.{ℕ, inl, inr, arith}
use Rattle.migration_types.specs.declared.geometry.GeometryFault.{GeometryFault}
use Rattle.migration_types.specs.declared.geometry.GeometryFault.TheVariants.{Pages as NoPages, Cells as NoCells, TooMany}
use Rattle.migration_types.specs.declared.size.Size.{Size}
use Rattle.migration_types.specs.Extents.{Extent, IsExtent, IsGeometryFault}

abbrev extent : Size → ℕ → ℕ → Extent
extent size pages cells = record { size = size; pages = pages; cells = cells }

-- what has a geometry misses no limit of it
pub no_fault : (size : Size) (pages cells : ℕ) (fault : GeometryFault) → IsGeometryFault size pages cells fault → IsExtent (extent size pages cells) → ⊥
no_fault size pages cells NoPages fault h = let some = h.some_pages in let few = h.own.pages in elim fault [ inl none ↦ absurd (omega arith) | inr many ↦ absurd (omega arith) ]
no_fault size pages cells NoCells fault h = let some = h.some_cells in let few = h.few_cells in elim fault.2 [ inl none ↦ absurd (omega arith) | inr many ↦ absurd (omega arith) ]
no_fault size pages cells TooMany fault h = let few = h.own.cells in absurd (omega (arith, fault.4))
