-- Right entries and right certificates.
use Rattle.std.specs.Prelude.{◌≡◌, ℕ, ◌<◌, ◌≤◌, Bool, true, false, ◌==◌, ◌⊎◌, List, length, Option, Some, None, slice_get}
use Rattle.migration_types.specs.declared.records.GuestRec.{GuestRec}
use Rattle.migration_types.specs.declared.records.GuestRec.TheVariants.{Read, Write, Release, See}
use Rattle.migration_types.specs.declared.records.SourceRec.TheVariants.{Send, Again}
use Rattle.migration_types.specs.declared.records.PagerRec.{PagerRec}
use Rattle.migration_types.specs.declared.records.PagerRec.TheVariants.{Place, Zero}
use Rattle.migration_types.specs.Certs.{Certified}
use Rattle.migration_types.specs.Sessions.{Recorded}
use Rattle.migration_types.specs.declared.cert.First.{First}
use Rattle.migration_types.specs.declared.cert.Entry.{Entry}
use Rattle.migration_types.specs.declared.cert.Entry.TheVariants.{Nothing, Fresh, Source, Balloon}
use Rattle.audit_model.specs.Mergings.{IsMerging, spelled}
use Rattle.migration_types.specs.Memory.{page_of}
use Rattle.audit_model.specs.Flat.{flat, ReadsFlatAt, in_ledger, AtTarget, home, at_halt}
use Rattle.audit_model.specs.Shape.{is_placement_of, delivery}

-- whether it is the entry of a page that was released at the target and never came
abbrev pub is_fresh : Entry → Bool
is_fresh (Fresh first) = true
is_fresh _ = false

-- a read or a write of the page
abbrev pub is_access_of : ℕ → GuestRec → Bool
is_access_of page (Read vcpu p c value) = p == page
is_access_of page (Write vcpu p c value) = p == page
is_access_of page _ = false

-- a read, a write or a release of the page
abbrev pub is_touch_of : ℕ → GuestRec → Bool
is_touch_of page (Read vcpu p c value) = p == page
is_touch_of page (Write vcpu p c value) = p == page
is_touch_of page (Release vcpu p) = p == page
is_touch_of page _ = false

-- guest record n is a read, a write or a release of the page after handover
pub record IsLateTouch (s : Recorded) (page n : ℕ) : Type 0 where
  pub by : GuestRec
  pub stands : slice_get s.guest n ≡ Some by
  pub is_touch : is_touch_of page by ≡ true
  pub is_late : home s n ≡ AtTarget

-- what each entry needs: the page's reads are flat, and the page is sent only if it is owed, with its contents at the
-- halt
pub record IsHonest (s : Recorded) (page : ℕ) : Type 0 where
  pub reads : ReadsFlatAt s page
  pub sends : (n : ℕ) (content : List ℕ) → slice_get s.source n ≡ Some (Send page content) → content ≡ page_of s.geometry.cells (flat s (at_halt s)) page
  pub owed : (n : ℕ) (content : List ℕ) → slice_get s.source n ≡ Some (Send page content) → in_ledger s (at_halt s) page ≡ false

-- pager record `place` is the only placement of the page
abbrev pub IsOnlyPlacement : Recorded → ℕ → ℕ → Type 0
IsOnlyPlacement s page place =
    (n : ℕ) (r : PagerRec) → slice_get s.pager n ≡ Some r → is_placement_of page r ≡ true → n ≡ place

-- the first touch after handover, and a look before it at the placement or a later one
pub record IsFirstCovered (s : Recorded) (page place : ℕ) (first : First) : Type 0 where
  pub is_touch : IsLateTouch s page first.access
  pub is_first : (n : ℕ) → IsLateTouch s page n → first.access ≤ n
  pub placement : ℕ
  pub sees : slice_get s.guest first.see ≡ Some (See placement)
  pub covers : place ≤ placement
  pub is_earlier : first.see < first.access

-- a look covers the first touch after handover, or there is no such touch
abbrev pub IsCovered : Recorded → ℕ → ℕ → Option First → Type 0
IsCovered s page place None = (n : ℕ) → IsLateTouch s page n → ⊥
IsCovered s page place (Some first) = IsFirstCovered s page place first

-- the page is neither placed nor touched after handover
pub record IsNothing (s : Recorded) (page : ℕ) : Type 0 where
  pub unplaced : (n : ℕ) (r : PagerRec) → slice_get s.pager n ≡ Some r → is_placement_of page r ≡ false
  pub untouched : (n : ℕ) → IsLateTouch s page n → ⊥

-- the page is not placed, and its first touch after handover is this release
pub record IsFresh (s : Recorded) (page first : ℕ) : Type 0 where
  pub unplaced : (n : ℕ) (r : PagerRec) → slice_get s.pager n ≡ Some r → is_placement_of page r ≡ false
  pub vcpu : ℕ
  pub is_release : slice_get s.guest first ≡ Some (Release vcpu page)
  pub is_late : home s first ≡ AtTarget
  pub is_first : (n : ℕ) → IsLateTouch s page n → first ≤ n

-- The page is sent only by this record of the source, and placed only by this record of the pager.
pub record IsFromSource (s : Recorded) (page send place : ℕ) (first : Option First) : Type 0 where
  pub sent : List ℕ
  pub is_sent : slice_get s.source send ≡ Some (Send page sent)
  pub got : ℕ
  pub content : List ℕ
  pub is_placed : slice_get s.pager place ≡ Some (Place page got content)
  pub delivered : ℕ
  pub is_delivery : delivery s got ≡ Some delivered
  pub is_the_send : (delivered ≡ send) ⊎ (slice_get s.source delivered ≡ Some (Again send))
  pub is_flat : content ≡ page_of s.geometry.cells (flat s (at_halt s)) page
  pub is_only : IsOnlyPlacement s page place
  pub is_covered : IsCovered s page place first

-- the page was released at the halt, and is placed as zeros by this record alone
pub record IsBalloon (s : Recorded) (page place : ℕ) (first : Option First) : Type 0 where
  pub is_zeroed : slice_get s.pager place ≡ Some (Zero page)
  pub is_only : IsOnlyPlacement s page place
  pub is_released : in_ledger s (at_halt s) page ≡ true
  pub is_covered : IsCovered s page place first

-- what the entry says about its page is true
abbrev pub IsOf : Recorded → ℕ → Entry → Type 0
IsOf s page Nothing = IsNothing s page
IsOf s page (Fresh first) = IsFresh s page first
IsOf s page (Source send place first) = IsFromSource s page send place first
IsOf s page (Balloon place first) = IsBalloon s page place first

-- a right entry for a page
abbrev pub IsRightEntry : Recorded → ℕ → Entry → Type 0
IsRightEntry s page entry = IsHonest s page × IsOf s page entry

-- a right entry for each page, in order, and runs that spell a merging
pub record IsRightCertificate (s : Recorded) (c : Certified) : Type 0 where
  pub pages : length c.entries ≡ s.geometry.pages
  pub entries : (page : ℕ) (entry : Entry) → slice_get c.entries page ≡ Some entry → IsRightEntry s page entry
  pub merging : IsMerging s (spelled c.runs)
