-- The pages that a guest has released.
use Rattle.std.specs.Prelude.{◌≡◌, ℕ, ◌&&◌, nat_lt, List, Bool, false, filter, slice_index_or}
use Rattle.std.specs.List.{range_with_len}
use Rattle.migration_types.specs.Extents.{Extent}
use Rattle.migration_types.specs.PageSets.{Pages}

-- a machine's geometry, and a mark for each of its pages, page 0 first
pub record Marks : Type 0 where
  pub geometry : Extent
  pub marks : List Bool

-- the marked pages; pages beyond the machine are not in the set
abbrev pub released : Marks → Pages
released m page = nat_lt page m.geometry.pages && slice_index_or m.marks page false

-- the pages of a set that are below a number, in rising order
abbrev pub pages_below : ℕ → Pages → List ℕ
pages_below pages set = filter set (range_with_len 0 pages)

-- marks of the same geometry, which now are those of this set
pub record IsWith (before after : Marks) (set : Pages) : Type 0 where
  pub geometry : after.geometry ≡ before.geometry
  pub set_is : released after ≡ set
