-- Which pages are resident: those that were placed, with the number of each placement, and those that the guest
-- released while they were absent. Also which placements a look has shown.
use Rattle.std.specs.Prelude.{◌≡◌, ℕ, ◌==◌, nat_le, nat_lt, max, List, Bool, true, false, ◌||◌, is_some, Option, Some, None, slice_index_or, if◌then◌else◌}
use Rattle.migration_types.specs.Extents.{Extent}
use Rattle.migration_types.specs.PageSets.{Pages}
use Rattle.residency.specs.declared.Presence.{Presence}
use Rattle.residency.specs.declared.Presence.TheVariants.{Absent, Placed, Freed}

-- the number of each page's placement, if it was placed
abbrev pub Placements : Type 0
Placements = ℕ → Option ℕ

-- no page was placed
abbrev pub no_placement : Placements
no_placement page = None

-- the placements with one page placed at this number
abbrev pub with_placement : ℕ → ℕ → Placements → Placements
with_placement placed number placements page = if placed == page then Some number else placements page

-- a machine's geometry, the state of each page, page 0 first, and the frontier
pub record Places : Type 0 where
  pub geometry : Extent
  pub pages : List Presence
  pub frontier : Option ℕ

-- the state of a page; pages beyond the machine are absent
abbrev pub presence : Places → ℕ → Presence
presence p page = if nat_lt page p.geometry.pages then slice_index_or p.pages page Absent else Absent

abbrev pub number_of : Presence → Option ℕ
number_of Absent = None
number_of (Placed number) = Some number
number_of Freed = None

abbrev pub is_freed : Presence → Bool
is_freed Absent = false
is_freed (Placed number) = false
is_freed Freed = true

-- the placements of the machine's pages
abbrev pub placements : Places → Placements
placements p page = number_of (presence p page)

-- the pages that were absent when the guest released them at the target
abbrev pub freed : Places → Pages
freed p page = is_freed (presence p page)

-- whether a page is resident, by its placement and by whether it was released while absent
abbrev pub is_resident : Option ℕ → Bool → Bool
is_resident placed released = is_some placed || released

-- the frontier, raised to at least this number
abbrev pub raised : ℕ → Option ℕ → Option ℕ
raised number None = Some number
raised number (Some most) = Some (max most number)

-- there is a placement, and it is at or below the frontier
abbrev pub is_covered : Option ℕ → Option ℕ → Bool
is_covered (Some number) (Some most) = nat_le number most
is_covered _ _ = false

-- the same geometry, with these placements, these released pages and this frontier
pub record IsWith (before after : Places) (all : Placements) (released : Pages) (frontier : Option ℕ) : Type 0 where
  pub geometry : after.geometry ≡ before.geometry
  pub placements_are : placements after ≡ all
  pub freed_are : freed after ≡ released
  pub frontier_is : after.frontier ≡ frontier
