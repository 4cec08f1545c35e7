-- What a history says about the happenings before each of its own.
use Rattle.std.specs.Prelude.{◌≡◌, ℕ, ◌<◌, ◌≤◌, ◌⊎◌, List, length, Option, Some, None, true, false, slice_get, slice_index}
use Rattle.migration_types.specs.declared.records.GuestRec.TheVariants.{Read, Write, Release, Resume, See}
use Rattle.residency.specs.Placements.{is_resident}
use Rattle.target_side.specs.TargetPart.{TargetPart}
use Rattle.target_side.specs.History.{Happening, Did, Placed, guest_part}

-- it is before place n
pub record IsEarlier (history : List Happening) (n : ℕ) (x : Happening) : Type 0 where
  pub place : ℕ
  pub before : place < n
  pub there : slice_get history place ≡ Some x

-- a placement of the page by the pager's record of this number is before place n
pub record IsPlaced (history : List Happening) (n page number : ℕ) : Type 0 where
  pub contents : List ℕ
  pub placement : IsEarlier history n (Placed page number contents)

-- the guest, after it had resumed, released the page at this place
pub record IsLateRelease (history : List Happening) (page place : ℕ) : Type 0 where
  pub vcpu : ℕ
  pub there : slice_get history place ≡ Some (Did (Release vcpu page))
  pub ready : ℕ
  pub resumed : IsEarlier history place (Did (Resume ready))

-- the page was released at the target before place n
pub record IsReleased (history : List Happening) (n page : ℕ) : Type 0 where
  pub place : ℕ
  pub before : place < n
  pub release : IsLateRelease history page place

-- before place n, the page was placed, and the guest looked at its placement or a later one
pub record IsSeen (history : List Happening) (n page : ℕ) : Type 0 where
  pub number : ℕ
  pub placed : IsPlaced history n page number
  pub look : ℕ
  pub looked : IsEarlier history n (Did (See look))
  pub covers : number ≤ look

-- there is no write of the cell between two places
abbrev pub IsUnwritten : List Happening → ℕ → ℕ → ℕ → ℕ → Type 0
IsUnwritten history m n page cell = (k vcpu value : ℕ) → m < k → k < n → slice_get history k ≡ Some (Did (Write vcpu page cell value)) → ⊥

-- the last write of the cell before place n comes after place m, and has this value
pub record IsLastWrite (history : List Happening) (m n page cell value : ℕ) : Type 0 where
  pub vcpu : ℕ
  pub write : IsEarlier history n (Did (Write vcpu page cell value))
  pub after : m < write.place
  pub last : IsUnwritten history write.place n page cell

-- the pager placed the page at this place, with this value in the cell
pub record IsPlacement (history : List Happening) (page place cell value : ℕ) : Type 0 where
  pub number : ℕ
  pub contents : List ℕ
  pub there : slice_get history place ≡ Some (Placed page number contents)
  pub value_is : value ≡ slice_index contents cell

-- at this place, all cells of a page were filled, this one with this value: the page was placed, or released at the
-- target
abbrev pub IsFill : List Happening → ℕ → ℕ → ℕ → ℕ → Type 0
IsFill history page place cell value = IsPlacement history page place cell value ⊎ (IsLateRelease history page place × (value ≡ 0))

-- The value of a cell of a resident page before place n: what was last written since the page was last filled, or else
-- what it was filled with.
pub record IsCell (history : List Happening) (n page cell value : ℕ) : Type 0 where
  pub place : ℕ
  pub before : place < n
  pub base : ℕ
  pub fill : IsFill history page place cell base
  pub last : (k other : ℕ) → place < k → k < n → IsFill history page k cell other → ⊥
  pub value_is : IsLastWrite history place n page cell value ⊎ (IsUnwritten history place n page cell × (value ≡ base))

-- a page is placed at most once
abbrev pub IsPlacedOnce : List Happening → Type 0
IsPlacedOnce history =
    (n m page number other : ℕ) (contents others : List ℕ) → slice_get history n ≡ Some (Placed page number contents) → slice_get history m ≡ Some (Placed page other others) → n ≡ m

-- before place n, the page was seen, or was released at the target
abbrev pub IsOwn : List Happening → ℕ → ℕ → Type 0
IsOwn history n page = IsSeen history n page ⊎ IsReleased history n page

-- After the guest has resumed, each read and write is of a page that it has seen or released there, and a read gives
-- the value of its cell. No placement comes after a release of its page.
pub record AreSeen (history : List Happening) (n ready : ℕ) (resumed : IsEarlier history n (Did (Resume ready))) : Type 0 where
  pub read : (vcpu page cell value : ℕ) → slice_get history n ≡ Some (Did (Read vcpu page cell value)) → IsOwn history n page × IsCell history n page cell value
  pub write : (vcpu page cell value : ℕ) → slice_get history n ≡ Some (Did (Write vcpu page cell value)) → IsOwn history n page
  pub placement : (page number : ℕ) (contents : List ℕ) → slice_get history n ≡ Some (Placed page number contents) → IsReleased history n page → ⊥

-- each look is at an earlier placement
abbrev pub AreOfPlacements : List Happening → Type 0
AreOfPlacements history = (n number : ℕ) → slice_get history n ≡ Some (Did (See number)) → (page : ℕ) × IsPlaced history n page number

-- the frontier is the greatest placement that a look has shown
abbrev pub IsFrontier : List Happening → Option ℕ → Type 0
IsFrontier history None = (n number : ℕ) → slice_get history n ≡ Some (Did (See number)) → ⊥
IsFrontier history (Some most) = IsEarlier history (length history) (Did (See most)) × ((n number : ℕ) → slice_get history n ≡ Some (Did (See number)) → number ≤ most)

-- A book is what its history says. Its log is the guest's part of the history. The resident pages are those that were
-- placed, with the numbers of their placements, and those that were released at the target. Their cells and the
-- frontier are the history's.
pub record IsOfHistory (book : TargetPart) (history : List Happening) : Type 0 where
  pub log : guest_part history ≡ book.log
  pub resident : (page number : ℕ) → book.placed page ≡ Some number → IsPlaced history (length history) page number
  pub absent : (page : ℕ) → book.placed page ≡ None → (n number : ℕ) (contents : List ℕ) → slice_get history n ≡ Some (Placed page number contents) → ⊥
  pub freed : (page : ℕ) → book.freed page ≡ true → IsReleased history (length history) page
  pub kept : (page : ℕ) → is_resident (book.placed page) (book.freed page) ≡ false → IsReleased history (length history) page → ⊥
  pub cells : (page cell : ℕ) → is_resident (book.placed page) (book.freed page) ≡ true → IsCell history (length history) page cell (book.memory page cell)
  pub frontier : IsFrontier history book.frontier
