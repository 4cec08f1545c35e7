-- The placement that may have given a read its value.
use Rattle.std.specs.Prelude.{◌≡◌, ℕ, ◌<◌, ◌≤◌, Bool, true, false, ◌==◌, ◌&&◌, nat_lt, Option, Some, None, slice_get}
use Rattle.migration_types.specs.declared.records.GuestRec.TheVariants.{Read, See}
use Rattle.migration_types.specs.declared.records.PagerRec.{PagerRec}
use Rattle.migration_types.specs.declared.records.PagerRec.TheVariants.{Place, Zero, Fault}
use Rattle.migration_types.specs.Sessions.{Recorded}
use Rattle.audit_model.specs.Shape.{passes, is_placement_of}
use Rattle.session_story.specs.Scans.{last_before}
use Rattle.session_story.specs.Values.{sets}
use Rattle.session_story.specs.declared.looks.Look.{Look}

-- whether a record places the page with this value in the cell
abbrev pub puts : ℕ → ℕ → ℕ → PagerRec → Bool
puts page cell value (Place p got content) = (p == page) && passes (λ x. x == value) (slice_get content cell)
puts page cell value (Zero p) = (p == page) && (value == 0)
puts page cell value _ = false

-- an order may have pager record q after guest record n: no look before n is at q or at a later record
abbrev pub MayFollow : Recorded → ℕ → ℕ → Type 0
MayFollow s q n = (m k : ℕ) → m < n → slice_get s.guest m ≡ Some (See k) → k < q

-- whether pager record q is behind all that a look reaches, if there is one
abbrev pub is_unseen : Option Look → ℕ → Bool
is_unseen None q = true
is_unseen (Some look) q = nat_lt look.placement q

-- an order may have pager record q before guest record n: the pager knows of no miss behind n before q
abbrev pub MayPrecede : Recorded → ℕ → ℕ → Type 0
MayPrecede s q n = (m k : ℕ) → m < q → slice_get s.pager m ≡ Some (Fault k) → k ≤ n

-- pager record q may follow the last record before guest record n that writes the cell or releases its page
abbrev pub MayFollowChange : Recorded → ℕ → ℕ → ℕ → ℕ → Type 0
MayFollowChange s n page cell q = (d : ℕ) → last_before (λ m. sets page cell) s.guest n ≡ Some d → MayFollow s q d

-- each placement of the page behind pager record q may follow guest record n
abbrev pub MayBeLast : Recorded → ℕ → ℕ → ℕ → Type 0
MayBeLast s n page q = (m : ℕ) (r : PagerRec) → q < m → slice_get s.pager m ≡ Some r → is_placement_of page r ≡ true → MayFollow s m n

-- Pager record q places the page with this value in the cell. An order may have it after the cell's last change before
-- guest record n, before n, and with the page's later placements behind n.
pub record MayGive (s : Recorded) (n page cell value q : ℕ) : Type 0 where
  pub by : PagerRec
  pub stands : slice_get s.pager q ≡ Some by
  pub puts_it : puts page cell value by ≡ true
  pub follows : MayFollowChange s n page cell q
  pub precedes : MayPrecede s q n
  pub is_last : MayBeLast s n page q

-- the first placement that may have given the cell this value
pub record IsFirstGiver (s : Recorded) (n page cell value q : ℕ) : Type 0 where
  pub gives : MayGive s n page cell value q
  pub is_first : (m : ℕ) → m < q → MayGive s n page cell value m → ⊥

-- ... its value to the read that is guest record n
pub record IsGiver (s : Recorded) (n q : ℕ) : Type 0 where
  pub vcpu : ℕ
  pub page : ℕ
  pub cell : ℕ
  pub value : ℕ
  pub reads : slice_get s.guest n ≡ Some (Read vcpu page cell value)
  pub first : IsFirstGiver s n page cell value q
