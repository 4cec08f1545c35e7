-- The page that is pushed is the one that bubbling chooses.
use Rattle.std.specs.Prelude.{◌≡◌, ℕ, false, Some, None}
use Rattle.std.specs.List.{range_with_len}
use Rattle.migration_types.specs.PageSets.{Pages}
use Rattle.bubbling.specs.Bubbling.{IsNextPushed}
use Rattle.active_push.specs.SourcePart.{nearest}

-- the page that bubbling chooses is the one that the source's book pushes, and there is no other such page
pub record IsChoice (pages pivot : ℕ) (set : Pages) : Type 0 where
  pub is_next : (page : ℕ) → nearest pivot set (range_with_len 0 pages) ≡ Some page → IsNextPushed set pivot page
  pub is_the : (page : ℕ) → IsNextPushed set pivot page → nearest pivot set (range_with_len 0 pages) ≡ Some page
  pub is_none : nearest pivot set (range_with_len 0 pages) ≡ None → (page : ℕ) → set page ≡ false
