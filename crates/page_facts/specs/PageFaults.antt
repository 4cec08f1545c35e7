-- The first fault of a page, and of some pages.
use Rattle.std.specs.Prelude.{◌≡◌, ℕ, ◌+◌, ◌<◌, ◌≤◌, ◌⊎◌, Option, Some, None, slice_get}
use Rattle.std.specs.Option.{MatchOption}
use Rattle.migration_types.specs.declared.records.LogName.TheVariants.{Guest, Source, Link, Lane, Pager}
use Rattle.migration_types.specs.Receipts.{Name, log_index}
use Rattle.migration_types.specs.Sessions.{Recorded}
use Rattle.audit_model.specs.declared.reasons.PageReason.{PageReason}
use Rattle.audit_model.specs.Faults.{IsPageFault}
use Rattle.audit_model.specs.Names.{if_there}
use Rattle.audit_model.specs.Reasons.{page_rank}
use Rattle.migration_types.specs.Paged.{guest_page, source_page, pager_page}
use Rattle.page_facts.specs.declared.page_fault.PageFault.{PageFault}

-- the page of the record with this name
abbrev pub page_at : Recorded → Name → Option ℕ
page_at s (Guest, n) = if_there guest_page (slice_get s.guest n)
page_at s (Source, n) = if_there source_page (slice_get s.source n)
page_at s (Link, n) = None
page_at s (Lane, n) = None
page_at s (Pager, n) = if_there pager_page (slice_get s.pager n)

-- the record's line is less
abbrev pub Precedes : Name → Name → Type 0
Precedes a b = (log_index a.0 < log_index b.0) ⊎ ((log_index a.0 ≡ log_index b.0) × (a.1 < b.1))

-- the record with this name has no fault of its page
abbrev pub IsFaultless : Recorded → Name → Type 0
IsFaultless s name = (reason : PageReason) → IsPageFault s reason name → ⊥

-- the least reason for which the record with this name is a fault of its page
pub record IsLeastReason (s : Recorded) (name : Name) (reason : PageReason) : Type 0 where
  pub is_fault : IsPageFault s reason name
  pub is_least : (other : PageReason) → IsPageFault s other name → page_rank reason ≤ page_rank other

-- no record of these pages has a fault
pub record AreClean (s : Recorded) (among : ℕ → Type 0) : Type 0 where
  pub each : (page : ℕ) (name : Name) → among page → page_at s name ≡ Some page → IsFaultless s name

-- the fault's page is that of its record
abbrev pub HasItsPage : Recorded → PageFault → Type 0
HasItsPage s f = page_at s (f.log, f.place) ≡ Some f.page

-- A fault of one of these pages, and none of them has a fault of a lesser line. Its reason is the least that the record
-- has.
pub record IsFirstFaultOf (s : Recorded) (among : ℕ → Type 0) (f : PageFault) : Type 0 where
  pub is_among : among f.page
  pub is_of : HasItsPage s f
  pub is_reason : IsLeastReason s (f.log, f.place) f.reason
  pub is_first : (other : ℕ) (name : Name) → among other → page_at s name ≡ Some other → Precedes name (f.log, f.place) → IsFaultless s name

-- no record of this page has a fault; the first fault of this page
abbrev pub IsClean : Recorded → ℕ → Type 0
IsClean s page = AreClean s (λ p. p ≡ page)

abbrev pub IsFirstFault : Recorded → ℕ → PageFault → Type 0
IsFirstFault s page f = IsFirstFaultOf s (λ p. p ≡ page) f

-- the page is one of this many from the first on
abbrev pub IsPageOf : ℕ → ℕ → ℕ → Type 0
IsPageOf first count page = (first ≤ page) × (page < first + count)

-- the first fault of this many pages from the first on
abbrev pub IsFirstFaultFrom : Recorded → ℕ → ℕ → Option PageFault → Type 0
IsFirstFaultFrom s first count fault = MatchOption fault (AreClean s (IsPageOf first count)) (IsFirstFaultOf s (IsPageOf first count))
