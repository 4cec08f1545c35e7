-- Reports: the results of an audit of a session.
use Rattle.std.specs.Prelude.{◌≡◌, ◌≢◌, ℕ, false, ◌⊎◌, List, Option, Some, None, slice_get}
use Rattle.migration_types.specs.declared.records.LogName.TheVariants.{Guest, Pager}
use Rattle.migration_types.specs.declared.records.GuestRec.{GuestRec}
use Rattle.migration_types.specs.declared.records.GuestRec.TheVariants.{Read, Write}
use Rattle.migration_types.specs.declared.records.PagerRec.{PagerRec}
use Rattle.migration_types.specs.declared.cert.Run.{Run}
use Rattle.migration_types.specs.declared.version.Version.TheVariants.{Two}
use Rattle.migration_types.specs.declared.size.Size.TheVariants.{Large}
use Rattle.migration_types.specs.Certs.{Certified, AreRuns}
use Rattle.migration_types.specs.Receipts.{Name}
use Rattle.migration_types.specs.Sessions.{Recorded, line_of}
use Rattle.audit_model.specs.declared.reasons.PageReason.{PageReason}
use Rattle.audit_model.specs.declared.reasons.PageReason.TheVariants.{Early, Over}
use Rattle.audit_model.specs.Names.{if_there}
use Rattle.audit_model.specs.Mergings.{IsMerging, spelled}
use Rattle.audit_model.specs.Shape.{IsRightShape, is_placement_of}
use Rattle.audit_model.specs.Faults.{HasNoPageFault}
use Rattle.audit_model.specs.FirstFault.{IsFirstPageFault}
use Rattle.audit_model.specs.FoundOrder.{IsFound}
use Rattle.audit_model.specs.Delayed.{IsFirstPlacement, IsDelayedOrder}
use Rattle.audit_model.specs.Laws.{BreaksAt}
use Rattle.page_facts.specs.declared.page_fault.PageFault.{PageFault}
use Rattle.page_facts.specs.PageFaults.{HasItsPage}
use Rattle.page_facts.specs.FaultyPages.{AreManyFaulty}
use Rattle.cert_check.specs.Verdicts.{IsShapeFault}
use Rattle.cert_maker.specs.Orders.{IsTied}
use Rattle.cert_maker.specs.Made.{IsMade}
use Rattle.audit_report.specs.declared.report.Report.{Report}
use Rattle.audit_report.specs.declared.report.Report.TheVariants.{Clean, Shape, Knot, Faulty}

-- the page that a record of the guest reads or writes
abbrev pub used_by : GuestRec → Option ℕ
used_by (Read vcpu page cell value) = Some page
used_by (Write vcpu page cell value) = Some page
used_by _ = None

-- the page that the record with this name reads or writes
abbrev pub page_used : Recorded → Name → Option ℕ
page_used s (Guest, n) = if_there used_by (slice_get s.guest n)
page_used s _ = None

-- the pager never places the page
abbrev pub HasNoPlacement : Recorded → ℕ → Type 0
HasNoPlacement s page = (n : ℕ) (r : PagerRec) → slice_get s.pager n ≡ Some r → is_placement_of page r ≡ false

-- the fault is an early access, and pager record `place` is the first placement of its page
pub record IsEarlyFor (s : Recorded) (reason : PageReason) (name : Name) (place : ℕ) : Type 0 where
  pub is_early : reason ≡ Early
  pub page : ℕ
  pub uses : page_used s name ≡ Some page
  pub is_first : IsFirstPlacement s page place

-- the fault is a placement over a release, by pager record `place` itself
pub record IsOverAt (reason : PageReason) (name : Name) (place : ℕ) : Type 0 where
  pub is_over : reason ≡ Over
  pub is_itself : name ≡ (Pager, place)

-- delaying pager record `place` shows the fault
abbrev pub IsShownWith : Recorded → PageReason → Name → ℕ → Type 0
IsShownWith s reason name place = IsEarlyFor s reason name place ⊎ IsOverAt reason name place

-- the fault is no early access to a page that is placed, and no placement over a release
pub record IsUndelayed (s : Recorded) (reason : PageReason) (name : Name) : Type 0 where
  pub unplaced : (page : ℕ) → reason ≡ Early → page_used s name ≡ Some page → HasNoPlacement s page
  pub is_not_over : reason ≢ Over

-- The order that shows a fault: the found order, or this order with a placement delayed. That is the first placement of
-- its page for an early access to a page that is placed, and the faulty placement itself for one over a release.
pub record IsOrderFor (s : Recorded) (reason : PageReason) (name : Name) (order : List Name) : Type 0 where
  pub found : List Name
  pub is_found : IsFound s found
  pub delayed : (place : ℕ) → IsShownWith s reason name place → IsDelayedOrder s found (Pager, place) order
  pub undelayed : IsUndelayed s reason name → order ≡ found

-- these runs spell the order that shows the fault, which is a merging in which the demand at the faulty record fails
pub record ShowsFault (s : Recorded) (reason : PageReason) (name : Name) (runs : List Run) : Type 0 where
  pub are_runs : AreRuns s.version s.geometry.size runs
  pub is_merging : IsMerging s (spelled runs)
  pub breaks : BreaksAt s (spelled runs) name
  pub is_order : IsOrderFor s reason name (spelled runs)

-- the session's first fault of a page, with its page and its line, runs that show it, and how many pages have a fault
pub record IsFaulty (s : Recorded) (line : ℕ) (fault : PageFault) (runs : List Run) (many : ℕ) : Type 0 where
  pub is_line : line ≡ line_of s (fault.log, fault.place)
  pub is_first : IsFirstPageFault s fault.reason (fault.log, fault.place)
  pub is_of : HasItsPage s fault
  pub shows : ShowsFault s fault.reason (fault.log, fault.place) runs
  pub are_many : AreManyFaulty s many

-- no page has a fault, and the certificate is right, with the earliest looks, and over the found order
pub record IsCleanWith (s : Recorded) (cert : Certified) : Type 0 where
  pub has_no_fault : HasNoPageFault s
  pub is_made : IsMade s cert.runs cert
  pub is_found : IsFound s (spelled cert.runs)

-- The first of these that applies: the session does not have the right shape, its logs have no merging, a page has a
-- fault, the session is clean.
abbrev pub IsReport : Recorded → Report → Type 0
IsReport s (Shape fault) = IsShapeFault s fault
IsReport s (Knot left found) = IsRightShape s × IsTied s left found
IsReport s (Faulty line fault order many) = IsRightShape s × IsFaulty s line fault order many
IsReport s (Clean cert) = IsRightShape s × IsCleanWith s cert

-- The report judges the pages: the session has the right shape, and its logs have a merging. Otherwise a fault of a
-- page means nothing.
abbrev pub JudgesPages : Report → Type 0
JudgesPages (Shape fault) = ⊥
JudgesPages (Knot left found) = ⊥
JudgesPages (Faulty line fault order many) = Unit {0}
JudgesPages (Clean cert) = Unit {0}

-- the report says that the session is clean
abbrev pub IsClean : Report → Type 0
IsClean (Clean cert) = Unit {0}
IsClean _ = ⊥

-- the runs of a fault's order are within the limits of their text, which are those of the second version and of the large size
abbrev pub ReportFits : Report → Type 0
ReportFits (Faulty line fault order many) = AreRuns Two Large order
ReportFits _ = Unit {0}
