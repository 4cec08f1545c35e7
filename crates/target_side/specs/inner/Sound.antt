-- The fields of the pager's book.
use Rattle.std.specs.Prelude.{◌≡◌, ℕ, ◌<◌, ◌≤◌, Bool, true, ◌||◌}
use Rattle.page_store.specs.Tables.{Values, pages_of, values}
use Rattle.target_side.specs.PagerPart.{is_released}
use Rattle.target_side.specs.PagerLists.{PagerLists, part_of, IsKept}

-- The invariant holds, each table has a value for each page, the marks are those of the released pages, and each page
-- below the bound is released, placed or cancelled.
pub record IsSound (b : PagerLists) (marks : Values Bool) (bound : ℕ) : Type 0 where
  pub kept : IsKept (part_of b)
  pub placed_pages : pages_of b.placed ≡ b.geometry.pages
  pub settled_pages : pages_of b.settled ≡ b.geometry.pages
  pub wants_pages : pages_of b.wants ≡ b.geometry.pages
  pub marked_pages : pages_of marks ≡ b.geometry.pages
  pub marked : values marks ≡ is_released b.released
  pub in_range : bound ≤ b.geometry.pages
  pub passed : (p : ℕ) → p < bound → (is_released b.released p || (values b.placed p || values b.settled p)) ≡ true
