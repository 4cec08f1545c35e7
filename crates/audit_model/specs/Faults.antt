-- The faults of a page, each a record and a reason.
use Rattle.std.specs.Prelude.{◌≡◌, ◌≢◌, ℕ, ◌≤◌, suc, Bool, true, false, Option, Some, None, slice_get}
use Rattle.migration_types.specs.declared.records.LogName.TheVariants.{Guest, Source, Link, Lane, Pager}
use Rattle.migration_types.specs.declared.records.GuestRec.{GuestRec}
use Rattle.migration_types.specs.declared.records.GuestRec.TheVariants.{Read, Release, See}
use Rattle.migration_types.specs.declared.records.SourceRec.{SourceRec}
use Rattle.migration_types.specs.declared.records.SourceRec.TheVariants.{Send}
use Rattle.migration_types.specs.declared.records.PagerRec.{PagerRec}
use Rattle.migration_types.specs.declared.records.PagerRec.TheVariants.{Place, Zero}
use Rattle.migration_types.specs.Sessions.{Recorded}
use Rattle.audit_model.specs.declared.reasons.PageReason.{PageReason}
use Rattle.audit_model.specs.declared.reasons.PageReason.TheVariants.{Read as WrongRead, Early, Given, Stale, Twice, Altered, Unfit, Over}
use Rattle.migration_types.specs.Receipts.{Name}
use Rattle.migration_types.specs.Memory.{page_of}
use Rattle.audit_model.specs.Flat.{flat, freed, in_ledger, AtTarget, home, at_halt}
use Rattle.audit_model.specs.Shape.{is_placement_of, earlier}
use Rattle.audit_model.specs.Certificates.{is_access_of, IsLateTouch}

-- whether it is a look at the page's placement, or at a later one
abbrev pub looks_at : Recorded → ℕ → GuestRec → Bool
looks_at s page (See k) = earlier (is_placement_of page) s.pager (suc k)
looks_at s page _ = false

-- whether a look before guest record n covers the page
abbrev pub has_looked : Recorded → ℕ → ℕ → Bool
has_looked s page n = earlier (looks_at s page) s.guest n

-- an access after handover to a page that was not released there before, with no look before it that covers the page
pub record IsEarly (s : Recorded) (n : ℕ) (r : GuestRec) (page : ℕ) : Type 0 where
  pub is_access : is_access_of page r ≡ true
  pub is_late : home s n ≡ AtTarget
  pub is_kept : freed s n page ≡ false
  pub is_uncovered : has_looked s page n ≡ false

-- the first touch of the page after handover is a release, with no look before it that covers the page
pub record IsOver (s : Recorded) (page : ℕ) : Type 0 where
  pub release : ℕ
  pub vcpu : ℕ
  pub stands : slice_get s.guest release ≡ Some (Release vcpu page)
  pub is_late : home s release ≡ AtTarget
  pub is_first : (n : ℕ) → IsLateTouch s page n → release ≤ n
  pub is_uncovered : has_looked s page release ≡ false

-- guest record n has a fault for this reason
abbrev pub GuestFault : Recorded → PageReason → ℕ → GuestRec → Type 0
GuestFault s WrongRead n (Read vcpu p c value) = value ≢ flat s n p c
GuestFault s Early n r = (page : ℕ) × IsEarly s n r page
GuestFault s _ n _ = ⊥

-- a record of the source has a fault for this reason
abbrev pub SourceFault : Recorded → PageReason → SourceRec → Type 0
SourceFault s Given (Send p content) = in_ledger s (at_halt s) p ≡ true
SourceFault s Stale (Send p content) = content ≢ page_of s.geometry.cells (flat s (at_halt s)) p
SourceFault s _ _ = ⊥

-- pager record n has a fault for this reason
abbrev pub PagerFault : Recorded → PageReason → ℕ → PagerRec → Type 0
PagerFault s Twice n (Place p got content) = earlier (is_placement_of p) s.pager n ≡ true
PagerFault s Twice n (Zero p) = earlier (is_placement_of p) s.pager n ≡ true
PagerFault s Altered n (Place p got content) = content ≢ page_of s.geometry.cells (flat s (at_halt s)) p
PagerFault s Unfit n (Zero p) = in_ledger s (at_halt s) p ≡ false
PagerFault s Over n (Place p got content) = (earlier (is_placement_of p) s.pager n ≡ false) × IsOver s p
PagerFault s Over n (Zero p) = (earlier (is_placement_of p) s.pager n ≡ false) × IsOver s p
PagerFault s _ n _ = ⊥

-- there is a record, and it has a fault
abbrev pub if_fault : {A : Type 0} → (A → Type 0) → Option A → Type 0
if_fault fault None = ⊥
if_fault fault (Some x) = fault x

-- the record with this name has a fault for this reason
abbrev pub IsPageFault : Recorded → PageReason → Name → Type 0
IsPageFault s reason (Guest, n) = if_fault (GuestFault s reason n) (slice_get s.guest n)
IsPageFault s reason (Source, n) = if_fault (SourceFault s reason) (slice_get s.source n)
IsPageFault s reason (Link, n) = ⊥
IsPageFault s reason (Lane, n) = ⊥
IsPageFault s reason (Pager, n) = if_fault (PagerFault s reason n) (slice_get s.pager n)

-- no record has a fault of its page
abbrev pub HasNoPageFault : Recorded → Type 0
HasNoPageFault s = (reason : PageReason) (name : Name) → IsPageFault s reason name → ⊥
