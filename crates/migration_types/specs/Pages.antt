-- The pages that do not begin as zeros.
use Rattle.std.specs.Prelude.{◌≡◌, ℕ, ◌<◌, List, map}
use Rattle.std.specs.List.{AllByRecursion}
use Rattle.std.specs.List.Sorted.{IsStrictlyIncreasing}
use Rattle.migration_types.specs.Contents.{IsContent}
use Rattle.migration_types.specs.declared.pages.InitPage.{InitPage}
use Rattle.migration_types.specs.Extents.{Extent}

-- all cells are zero
abbrev pub AreZeros : List ℕ → Type 0
AreZeros cells = AllByRecursion (λ x. x ≡ 0) cells

-- a page of the machine, with one value for each of its cells, not all of them zero
pub record InitPageFits (e : Extent) (p : InitPage) : Type 0 where
  pub page : p.page < e.pages
  pub content : IsContent e.cells p.cells
  pub not_zeros : AreZeros p.cells → ⊥

-- each page fits the machine, and the page numbers rise
pub record AreInitPages (e : Extent) (init : List InitPage) : Type 0 where
  pub each : AllByRecursion (InitPageFits e) init
  pub rising : IsStrictlyIncreasing (map (λ p. p.page) init)
