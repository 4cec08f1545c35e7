-- What thinned logs keep of a session.
use Rattle.std.specs.Prelude.{◌≡◌, ◌↔◌, ℕ, ◌<◌, true, false, List, length, Bool, Some, slice_get}
use Rattle.migration_types.specs.declared.records.LogName.TheVariants.{Guest}
use Rattle.migration_types.specs.Receipts.{Name}
use Rattle.migration_types.specs.Sessions.{Recorded}
use Rattle.audit_model.specs.declared.reasons.PageReason.{PageReason}
use Rattle.audit_model.specs.Mergings.{HasMerging}
use Rattle.audit_model.specs.Shape.{IsRightShape}
use Rattle.audit_model.specs.Faults.{IsPageFault}
use Rattle.page_facts.specs.declared.page_fault.PageFault.{PageFault}
use Rattle.page_facts.specs.PageFaults.{page_at, IsClean, IsFirstFault}
use Rattle.kept_faults.specs.Thinned.{thinned, thin_name, IsKept, IsMisread}

-- a read of the page before the record with this name gives another value than one machine that never moved would; the
-- guest's records are before those of the other logs
abbrev pub IsMisreadBefore : Recorded → Name → ℕ → Type 0
IsMisreadBefore s (Guest, n) page = IsMisread s n page
IsMisreadBefore s name page = IsMisread s (length s.guest) page

-- the page of the record was misread before it
pub record WasMisread (s : Recorded) (name : Name) : Type 0 where
  pub page : ℕ
  pub is_of : page_at s name ≡ Some page
  pub is_misread : IsMisreadBefore s name page

-- a record that is kept, and whose page was not misread before it, has a fault of its page exactly when it has that
-- fault in the session, for the same reason
abbrev pub KeepsFaults : List Bool → Recorded → Type 0
KeepsFaults marks s =
    (reason : PageReason) (name : Name) → IsKept marks name → (WasMisread s name → ⊥) →
    IsPageFault s reason name ↔ IsPageFault (thinned marks s) reason (thin_name marks name)

-- a fault of the page before guest record n, at a record that is kept
pub record HasKeptFault (marks : List Bool) (s : Recorded) (n page : ℕ) : Type 0 where
  pub place : ℕ
  pub reason : PageReason
  pub is_earlier : place < n
  pub is_kept : slice_get marks place ≡ Some true
  pub is_of : page_at s (Guest, place) ≡ Some page
  pub is_fault : IsPageFault s reason (Guest, place)

-- where a record that is left out has a fault, an earlier one of its page that is kept has one
abbrev pub FaultsAreLater : List Bool → Recorded → Type 0
FaultsAreLater marks s =
    (reason : PageReason) (n page : ℕ) → slice_get marks n ≡ Some false → page_at s (Guest, n) ≡ Some page →
    IsPageFault s reason (Guest, n) → HasKeptFault marks s n page

-- the fault with its record's new number
abbrev pub thin_fault : List Bool → PageFault → PageFault
thin_fault marks f = record { page = f.page; log = f.log; place = (thin_name marks (f.log, f.place)).1; reason = f.reason }

-- each page's first fault is at a record that is kept, and stays the page's first
abbrev pub KeepsFirstFaults : List Bool → Recorded → Type 0
KeepsFirstFaults marks s =
    (page : ℕ) (f : PageFault) → IsFirstFault s page f →
    IsKept marks (f.log, f.place) × IsFirstFault (thinned marks s) page (thin_fault marks f)

-- and each page's first fault was the page's first
abbrev pub FirstFaultsWere : List Bool → Recorded → Type 0
FirstFaultsWere marks s =
    (page : ℕ) (f : PageFault) → IsFirstFault (thinned marks s) page f →
    (was : PageFault) × IsFirstFault s page was × (f ≡ thin_fault marks was)

-- the page's first fault is in the same log as this one, and for the same reason
pub record HasFirstLike (s : Recorded) (page : ℕ) (f : PageFault) : Type 0 where
  pub found : PageFault
  pub is_first : IsFirstFault s page found
  pub is_log : found.log ≡ f.log
  pub is_reason : found.reason ≡ f.reason

-- Both sessions have the right shape or neither, both have a merging or neither, and the same pages have a fault. Each
-- page's first fault is the same in both but for its record's number.
pub record HasSameVerdict (whole thin : Recorded) : Type 0 where
  pub shape : IsRightShape whole ↔ IsRightShape thin
  pub merging : HasMerging whole ↔ HasMerging thin
  pub clean : (page : ℕ) → IsClean whole page ↔ IsClean thin page
  pub first : (page : ℕ) (f : PageFault) → IsFirstFault whole page f → HasFirstLike thin page f
  pub was_first : (page : ℕ) (f : PageFault) → IsFirstFault thin page f → HasFirstLike whole page f
