-- Jumps over pages that are known to be gone.
use Rattle.std.specs.Prelude.{◌≡◌, ℕ, ◌+◌, ◌-◌, ◌<◌, ◌≤◌, Bool, false, List, length, slice_index}
use Rattle.bubbling.specs.declared.jumps.Sweep.{Sweep}
use Rattle.bubbling.specs.declared.jumps.Sweep.TheVariants.{Up, Down}
use Rattle.bubbling.specs.Bubbling.{marked}

-- the page at a place on a sweep through this many pages
abbrev pub page_at : Sweep → ℕ → ℕ → ℕ
page_at Up pages place = place
page_at Down pages place = pages - 1 - place

-- no page from one place up to another is marked
abbrev pub IsGone : Sweep → List Bool → ℕ → ℕ → Type 0
IsGone sweep marks from to = (k : ℕ) → from ≤ k → k < to → marked marks (page_at sweep (length marks) k) ≡ false

-- at each place, how many pages from there on are known to have no mark
pub record AreJumps (sweep : Sweep) (marks : List Bool) (jumps : List ℕ) : Type 0 where
  pub count : length jumps ≡ length marks
  pub end : (place : ℕ) → place < length marks → place + slice_index jumps place ≤ length marks
  pub none : (place : ℕ) → place < length marks → IsGone sweep marks place (place + slice_index jumps place)
