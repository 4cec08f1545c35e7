-- Cut sessions, whose logs are cut to a front, and what they keep of the whole one.
use Rattle.std.specs.Prelude.{◌≡◌, ◌≢◌, ◌↔◌, ℕ, ◌<◌, ◌≤◌, ◌⊎◌, Bool, true, not, nat_lt, List, ◌++◌, filter, Some, slice_get}
use Rattle.migration_types.specs.declared.records.LogName.{LogName}
use Rattle.migration_types.specs.declared.records.LogName.TheVariants.{Guest, Source, Pager}
use Rattle.migration_types.specs.declared.records.SourceRec.TheVariants.{Back}
use Rattle.migration_types.specs.Receipts.{Name, log_index}
use Rattle.migration_types.specs.Sessions.{Recorded, log_length}
use Rattle.audit_model.specs.declared.reasons.PageReason.{PageReason}
use Rattle.audit_model.specs.declared.reasons.PageReason.TheVariants.{Over}
use Rattle.audit_model.specs.declared.reasons.ShapeReason.{ShapeReason}
use Rattle.audit_model.specs.Flat.{at_halt}
use Rattle.audit_model.specs.Shape.{is_right, IsRightShape}
use Rattle.audit_model.specs.Certificates.{IsLateTouch}
use Rattle.audit_model.specs.Faults.{IsPageFault}
use Rattle.audit_model.specs.Mergings.{IsMerging, Cursors}
use Rattle.page_facts.specs.declared.page_fault.PageFault.{PageFault}
use Rattle.page_facts.specs.PageFaults.{page_at, IsFirstFault, Precedes}
use Rattle.recorder_files.specs.Fronts.{IsFront, cut_to}

-- ---- faults of pages

-- the record with this name is in the front
abbrev pub IsInFront : Cursors → Name → Type 0
IsInFront c name = name.1 < c name.0

-- A front with records of the source or of the pager has the guest's up to the first halt. What is sent and placed is
-- judged by the flat machine there.
abbrev pub HasHalt : Recorded → Cursors → Type 0
HasHalt s c = (0 < c Source) ⊎ (0 < c Pager) → at_halt s ≤ c Guest

-- if the guest touches the page at the target, it does so in the front
abbrev pub HasTouch : Recorded → Cursors → ℕ → Type 0
HasTouch s c page = (n : ℕ) → IsLateTouch s page n → (m : ℕ) × IsLateTouch s page m × (m < c Guest)

-- A record of the front has a fault of its page exactly where it has it in the session, for the same reason. That a
-- placement comes over a release is seen where the front has that release.
abbrev pub KeepsFaults : Recorded → Cursors → Type 0
KeepsFaults s c =
    (reason : PageReason) (name : Name) → IsInFront c name →
    (reason ≡ Over → (page : ℕ) → page_at s name ≡ Some page → HasTouch s c page) →
    IsPageFault s reason name ↔ IsPageFault (cut_to c s) reason name

-- a session of the right shape, and a front of it with a placement over a release that the cut session lacks
pub record LacksFault : Type 0 where
  pub whole : Recorded
  pub shape : IsRightShape whole
  pub cursors : Cursors
  pub front : IsFront whole cursors
  pub name : Name
  pub is_inside : IsInFront cursors name
  pub is_fault : IsPageFault whole Over name
  pub is_lacking : IsPageFault (cut_to cursors whole) Over name → ⊥

-- a fault of a page in the cut session is one in the session, of the same record, for the same reason
abbrev pub FaultsWere : Recorded → Cursors → Type 0
FaultsWere s c =
    (reason : PageReason) (name : Name) → IsPageFault (cut_to c s) reason name →
    IsInFront c name × IsPageFault s reason name

-- the cut session has the fault
abbrev pub HasStill : Recorded → Cursors → PageFault → Type 0
HasStill s c f = IsPageFault (cut_to c s) f.reason (f.log, f.place)

-- a page's first fault that the cut session still has is the page's first there
abbrev pub KeepsFirstFaults : Recorded → Cursors → Type 0
KeepsFirstFaults s c = (page : ℕ) (f : PageFault) → IsFirstFault s page f → HasStill s c f → IsFirstFault (cut_to c s) page f

-- the front has all records of the logs above this one
abbrev pub HasAllAbove : Recorded → Cursors → LogName → Type 0
HasAllAbove s c log = (above : LogName) → log_index above < log_index log → log_length s above ≤ c above

-- a page's first fault in the cut session was the page's first, if the front has all records of the logs above
abbrev pub FirstFaultsWere : Recorded → Cursors → Type 0
FirstFaultsWere s c =
    (page : ℕ) (f : PageFault) → IsFirstFault (cut_to c s) page f → HasAllAbove s c f.log → IsFirstFault s page f

-- the fault is the same as this first one, or that stands before it and the cut session lacks it
abbrev pub IsNoLater : Recorded → Cursors → PageFault → PageFault → Type 0
IsNoLater s c f first = (f ≡ first) ⊎ (Precedes (first.log, first.place) (f.log, f.place) × (HasStill s c first → ⊥))

-- the page has a first fault, which stands no later
pub record HasFirstFault (s : Recorded) (c : Cursors) (page : ℕ) (f : PageFault) : Type 0 where
  pub first : PageFault
  pub is_first : IsFirstFault s page first
  pub is_no_later : IsNoLater s c f first

-- in any front, a page with a first fault in the cut session has a first fault, which stands no later
abbrev pub FirstFaultsAreLater : Recorded → Cursors → Type 0
FirstFaultsAreLater s c = (page : ℕ) (f : PageFault) → IsFirstFault (cut_to c s) page f → HasFirstFault s c page f

-- ---- the shape

-- The source's first record, `halted`, needs the state after it. A front may have the one without the other.
abbrev pub HasState : Cursors → Type 0
HasState c = c Source ≢ 1

-- a record with the right shape keeps it; the source's first does if the state is there too
abbrev pub KeepsShape : Recorded → Cursors → Type 0
KeepsShape s c =
    (reason : ShapeReason) (name : Name) → (name ≡ (Source, 0) → HasState c) →
    is_right s reason name ≡ true → is_right (cut_to c s) reason name ≡ true

-- The record of the source with which it starts its guest again. Whether it is right is seen only with the ends of the
-- logs: it is the source's last record, in a session without a resume.
abbrev pub IsBack : Recorded → Name → Type 0
IsBack s name = (name.0 ≡ Source) × (slice_get s.source name.1 ≡ Some Back)

-- any other record of the front has a fault of its shape exactly where it has it in the session, for the same reason
abbrev pub KeepsShapeFaults : Recorded → Cursors → Type 0
KeepsShapeFaults s c =
    (reason : ShapeReason) (name : Name) → IsInFront c name → (name ≡ (Source, 0) → HasState c) → (IsBack s name → ⊥) →
    is_right (cut_to c s) reason name ≡ is_right s reason name

-- ---- mergings

-- whether the record with this name is in the front
abbrev pub is_in_front : Cursors → Name → Bool
is_in_front c name = nat_lt name.1 (c name.0)

-- of these names, those of the front's records, and those of the others
abbrev pub in_front : Cursors → List Name → List Name
in_front c order = filter (is_in_front c) order

abbrev pub behind_front : Cursors → List Name → List Name
behind_front c order = filter (λ name. not (is_in_front c name)) order

-- a merging of the session is one of the cut session, without the names of what is left out
abbrev pub KeepsMergings : Recorded → Cursors → Type 0
KeepsMergings s c = (order : List Name) → IsMerging s order → IsMerging (cut_to c s) (in_front c order)

-- a merging of the cut session goes on as any merging of the session does
abbrev pub MergingsGoOn : Recorded → Cursors → Type 0
MergingsGoOn s c =
    (order whole : List Name) → IsMerging (cut_to c s) order → IsMerging s whole →
    IsMerging s (order ++ behind_front c whole)

-- a merging of the session has the names of the front's records in this order
pub record IsPart (s : Recorded) (c : Cursors) (order : List Name) : Type 0 where
  pub whole : List Name
  pub merging : IsMerging s whole
  pub is_part : in_front c whole ≡ order
