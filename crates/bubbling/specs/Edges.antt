-- The edges of pivots: how far pushing has come on both sides of each.
use Rattle.std.specs.Prelude.{◌≡◌, ℕ, ◌+◌, ◌-◌, ◌<◌, ◌≤◌, ◌==◌, ◌⊎◌, true, false, List, [], ◌∷◌, Option, Some, None, ℤ, pos, ◌-ℤ◌, if◌then◌else◌}
use Rattle.migration_types.specs.PageSets.{Pages}
use Rattle.bubbling.specs.declared.edges.Edges.{Edges}

-- both edges at a page, so that there is no page strictly between them
abbrev pub at_page : ℕ → Edges
at_page page = record { first = page + 1; past = page }

-- the edges as numbers of pages, with -1 before the first page
abbrev pub low_edge : Edges → ℤ
low_edge e = pos e.first -ℤ pos 1

abbrev pub high_edge : Edges → ℤ
high_edge e = pos e.past

-- the edges of a page among pivots
abbrev pub edges_in : ℕ → List ℕ → List Edges → Option Edges
edges_in page [] es = None
edges_in page (pivot ∷ pivots) [] = None
edges_in page (pivot ∷ pivots) (e ∷ es) = if pivot == page then Some e else edges_in page pivots es

-- a page is the low edge, or the high one
abbrev pub IsOnEdge : ℕ → Edges → Type 0
IsOnEdge page e = (page + 1 ≡ e.first) ⊎ (page ≡ e.past)

-- neither edge is further inward than before
abbrev pub IsOutward : Edges → Edges → Type 0
IsOutward before after = (after.first ≤ before.first) × (before.past ≤ after.past)

-- a pivot is within its edges, which are within the machine, and no page of the set is strictly between them
pub record IsReach (pages : ℕ) (set : Pages) (pivot : ℕ) (e : Edges) : Type 0 where
  pub low : e.first ≤ pivot + 1
  pub high : pivot ≤ e.past
  pub start : e.first ≤ pages
  pub end : e.past ≤ pages
  pub none : (q : ℕ) → e.first ≤ q → q < e.past → set q ≡ false

-- each pivot is within its edges, and there are as many edges as pivots
abbrev pub AreReaches : ℕ → Pages → List ℕ → List Edges → Type 0
AreReaches pages set [] [] = Unit
AreReaches pages set [] (e ∷ es) = ⊥
AreReaches pages set (pivot ∷ pivots) [] = ⊥
AreReaches pages set (pivot ∷ pivots) (e ∷ es) = IsReach pages set pivot e × AreReaches pages set pivots es

-- each edge is a page of the set, or is out of the machine
pub record IsAtRest (pages : ℕ) (set : Pages) (e : Edges) : Type 0 where
  pub low : 1 ≤ e.first → set (e.first - 1) ≡ true
  pub high : e.past < pages → set e.past ≡ true
