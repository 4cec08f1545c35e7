-- The look of the guest that reaches furthest.
use Rattle.std.specs.Prelude.{◌≡◌, ℕ, ◌<◌, ◌≤◌, Option, Some, MatchOption, slice_get}
use Rattle.migration_types.specs.declared.records.GuestRec.TheVariants.{See}
use Rattle.migration_types.specs.Sessions.{Recorded}
use Rattle.session_story.specs.declared.looks.Look.{Look}

-- there is no look before guest record n
abbrev pub HasNoLook : Recorded → ℕ → Type 0
HasNoLook s n = (m k : ℕ) → m < n → slice_get s.guest m ≡ Some (See k) → ⊥

-- of the looks before guest record n, the one at the greatest record of the pager, and the first if there are several
pub record IsGreatestLook (s : Recorded) (n : ℕ) (l : Look) : Type 0 where
  pub is_look : slice_get s.guest l.place ≡ Some (See l.placement)
  pub is_before : l.place < n
  pub is_greatest : (m k : ℕ) → m < n → slice_get s.guest m ≡ Some (See k) → k ≤ l.placement
  pub is_first : (m k : ℕ) → m < l.place → slice_get s.guest m ≡ Some (See k) → k < l.placement

-- this is the look that reaches furthest before guest record n, or there is none
abbrev pub IsFurthestLook : Recorded → ℕ → Option Look → Type 0
IsFurthestLook s n look = MatchOption look (HasNoLook s n) (IsGreatestLook s n)
