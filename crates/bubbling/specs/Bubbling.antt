-- The pages that a source pushes, outward from pivots.
use Rattle.std.specs.Prelude.{◌≡◌, ◌≢◌, ℕ, ◌+◌, ◌-◌, ◌%◌, ◌<◌, ◌≤◌, ◌⊎◌, nat_lt, Bool, false, true, ◌&&◌, Option, Some, List, [], ◌∷◌, length, take, slice_index, slice_index_or}
use Rattle.migration_types.specs.Extents.{Extent}
use Rattle.migration_types.specs.PageSets.{Pages, others}
use Rattle.bubbling.specs.declared.edges.Edges.{Edges}
use Rattle.bubbling.specs.Edges.{at_page, edges_in, IsOnEdge, IsOutward, IsReach, IsAtRest}

-- the greatest number of pivots
abbrev pub most_pivots : ℕ
most_pivots = 16

-- the greatest number of pivots to keep, the pivots, newest first, and the place of the one in turn
pub record Ring : Type 0 where
  pub most : ℕ
  pub pivots : List ℕ
  pub turn : ℕ

-- the machine, the pivots, the edges of each, and whether each page is still to be pushed
pub record Bubbling : Type 0 where
  pub geometry : Extent
  pub ring : Ring
  pub edges : List Edges
  pub marks : List Bool

-- the pages that are marked; there is none beyond the marks
abbrev pub marked : List Bool → Pages
marked marks page = slice_index_or marks page false

-- the pages that are still to be pushed
abbrev pub unsent : Bubbling → Pages
unsent b = marked b.marks

-- the pages of a machine that are not in the set
abbrev pub rest_of : ℕ → Pages → Pages
rest_of pages set page = nat_lt page pages && others set page

-- no two pivots are the same page
abbrev pub AreDistinct : List ℕ → Type 0
AreDistinct pivots = (j k : ℕ) → j < k → k < length pivots → slice_index pivots j ≢ slice_index pivots k

-- some pivots, all different, and one of them in turn
pub record IsRing (r : Ring) : Type 0 where
  pub some : 1 ≤ length r.pivots
  pub few : length r.pivots ≤ r.most
  pub most : r.most ≤ most_pivots
  pub distinct : AreDistinct r.pivots
  pub turn : r.turn < length r.pivots

-- page 0 is the only pivot
abbrev pub first_ring : ℕ → Ring
first_ring most = record { most = most; pivots = 0 ∷ []; turn = 0 }

-- the page in turn
abbrev pub in_turn : Ring → ℕ
in_turn r = slice_index r.pivots r.turn

-- the turn goes to the next pivot, and after the last to the first
abbrev pub turned : Ring → Ring
turned r = record { most = r.most; pivots = r.pivots; turn = (r.turn + 1) % length r.pivots }

-- a page becomes the newest pivot, with the turn; if there are too many, the oldest is dropped
abbrev pub faulted : ℕ → Ring → Ring
faulted page r = record { most = r.most; pivots = take r.most (page ∷ r.pivots); turn = 0 }

-- the distance between two pages
abbrev pub distance : ℕ → ℕ → ℕ
distance a b = (a - b) + (b - a)

-- one page goes before another: it is nearer to the pivot, or as near with the greater number
abbrev pub GoesBefore : ℕ → ℕ → ℕ → Type 0
GoesBefore pivot page other = (distance pivot page < distance pivot other) ⊎ ((distance pivot page ≡ distance pivot other) × (other < page))

-- the page of the set that goes before every other
pub record IsNextPushed (set : Pages) (pivot page : ℕ) : Type 0 where
  pub is_unsent : set page ≡ true
  pub is_first : (other : ℕ) → set other ≡ true → other ≢ page → GoesBefore pivot page other

-- a machine's pivots with their edges, and its unsent pages, at the start
pub record IsStart (e : Extent) (most : ℕ) (owed : Pages) (b : Bubbling) : Type 0 where
  pub geometry : b.geometry ≡ e
  pub ring : b.ring ≡ first_ring most
  pub edges : b.edges ≡ at_page 0 ∷ []
  pub unsent_is : unsent b ≡ owed

-- these pivots and unsent pages, on the same machine
pub record IsWith (before after : Bubbling) (ring : Ring) (pages : Pages) : Type 0 where
  pub geometry : after.geometry ≡ before.geometry
  pub ring_is : after.ring ≡ ring
  pub unsent_is : unsent after ≡ pages

-- the edges of a pivot
abbrev pub edges_of : ℕ → Bubbling → Option Edges
edges_of page b = edges_in page b.ring.pivots b.edges

-- each pivot is within its edges, with no page to be pushed strictly between them
abbrev pub AreEdges : Bubbling → Type 0
AreEdges b = (pivot : ℕ) (e : Edges) → edges_of pivot b ≡ Some e → IsReach b.geometry.pages (unsent b) pivot e

-- no edge of a kept pivot moves inward
abbrev pub NoneInward : Bubbling → Bubbling → Type 0
NoneInward before after = (pivot : ℕ) (e f : Edges) → edges_of pivot before ≡ Some e → edges_of pivot after ≡ Some f → IsOutward e f

-- a pivot's edges moved outward past pages that were not to be pushed, and the chosen page is on one of them
pub record HasMoved (before after : Bubbling) (pivot page : ℕ) : Type 0 where
  pub edges : Edges
  pub is : edges_of pivot after ≡ Some edges
  pub on_edge : IsOnEdge page edges
  pub at_rest : IsAtRest before.geometry.pages (unsent before) edges
  pub others : (other : ℕ) → other ≢ pivot → edges_of other after ≡ edges_of other before
