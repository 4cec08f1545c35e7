-- The story of the report on a session.
use Rattle.std.specs.Prelude.{◌≡◌, ◌≢◌, ◌⊎◌, ℕ, ◌+◌, ◌<◌, ◌≤◌, Bool, true, false, not, ◌&&◌, nat_le, is_some, Decides, List, [], Contains, length, MatchOption, Option, Some, None, slice_get, slice_index}
use Rattle.std.specs.List.{All}
use Rattle.migration_types.specs.declared.records.LogName.{LogName}
use Rattle.migration_types.specs.declared.records.LogName.TheVariants.{Guest, Source}
use Rattle.migration_types.specs.declared.records.GuestRec.TheVariants.{Read}
use Rattle.migration_types.specs.declared.records.SourceRec.TheVariants.{Send}
use Rattle.migration_types.specs.declared.records.PagerRec.{PagerRec}
use Rattle.migration_types.specs.declared.records.PagerRec.TheVariants.{Place, Zero}
use Rattle.migration_types.specs.Receipts.{Name}
use Rattle.migration_types.specs.Sessions.{Recorded, line_of}
use Rattle.audit_model.specs.declared.reasons.PageReason.{PageReason}
use Rattle.audit_model.specs.declared.reasons.PageReason.TheVariants.{Read as WrongRead, Early, Given, Stale, Twice, Altered, Unfit, Over}
use Rattle.audit_model.specs.Flat.{flat, at_halt}
use Rattle.audit_model.specs.FirstFault.{IsFirstFault, IsFirstPageFault}
use Rattle.audit_model.specs.Laws.{BreaksAt, UnplacedBefore}
use Rattle.audit_model.specs.Mergings.{IsMerging}
use Rattle.audit_model.specs.Shape.{IsRightShape, is_send_of, is_placement_of, passes}
use Rattle.page_facts.specs.FaultyPages.{AreManyFaulty}
use Rattle.page_facts.specs.declared.faulty.FaultyPage.{FaultyPage}
use Rattle.page_facts.specs.declared.findings.Findings.{Findings}
use Rattle.page_facts.specs.declared.page_fault.PageFault.{PageFault}
use Rattle.page_facts.specs.Judged.{is_late_touch, releases_at}
use Rattle.page_facts.specs.PageFaults.{page_at}
use Rattle.page_facts.specs.Tables.{first_before}
use Rattle.audit_report.specs.declared.report.Report.{Report}
use Rattle.audit_report.specs.declared.report.Report.TheVariants as report
use Rattle.session_story.specs.Apart.{AreFaultyApart}
use Rattle.session_story.specs.Pages.{IsHandover, IsPageStory, sent_before}
use Rattle.session_story.specs.Values.{IsInstead, IsOther, IsOtherAtHalt}
use Rattle.session_story.specs.Giving.{IsGiver, MayFollow}
use Rattle.session_story.specs.Losing.{IsLost}
use Rattle.session_story.specs.Looks.{IsFurthestLook}
use Rattle.session_story.specs.Counted.{IsCounts}
use Rattle.session_story.specs.RecordValues.{value_at}
use Rattle.session_story.specs.Waits.{IsCircle}
use Rattle.session_story.specs.declared.looks.Look.{Look}
use Rattle.session_story.specs.declared.losing.Lost.{Lost as LostChange}
use Rattle.session_story.specs.declared.values.CellValue.{CellValue}
use Rattle.session_story.specs.declared.fault_stories.Detail.{Detail}
use Rattle.session_story.specs.declared.fault_stories.Detail.TheVariants.{Instead, Seen, Other, Plain}
use Rattle.session_story.specs.declared.fault_stories.PageCause.{PageCause}
use Rattle.session_story.specs.declared.fault_stories.PageCause.TheVariants.{Sent, Placed, Zeroed, Again, Over as PlacedOver, Early as UsedEarly, Unplaced, Lost, Unrecorded}
use Rattle.session_story.specs.declared.fault_stories.FaultStory.{FaultStory}
use Rattle.session_story.specs.declared.fault_stories.ApartStory.{ApartStory}
use Rattle.session_story.specs.declared.fault_stories.ShapeStory.{ShapeStory}
use Rattle.session_story.specs.declared.explanations.Explanation.{Explanation}
use Rattle.session_story.specs.declared.explanations.Explanation.TheVariants as told
use Rattle.cert_check.specs.declared.verdict.ShapeFault.{ShapeFault}

-- if these contents differ from the page's at the halt, the first cell that differs
abbrev pub IsOtherIn : Recorded → ℕ → List ℕ → Option CellValue → Type 0
IsOtherIn s page content held =
    MatchOption held ((c : ℕ) → c < s.geometry.cells → slice_index content c ≡ flat s (at_halt s) page c) (IsOther s page content)

-- the look that reached furthest before the page's first touch after handover
abbrev pub IsLookBeforeTouch : Recorded → ℕ → Option Look → Type 0
IsLookBeforeTouch s page look = (first : ℕ) → first_before (is_late_touch s page) s.guest (length s.guest) ≡ Some first → IsFurthestLook s first look

-- What the story says besides. For a wrong read, what one machine gives. For an early access, the look that reached
-- furthest before it. For contents that are not the page's, the first cell that differs. For a placement over a
-- release, the look that reached furthest before this release.
abbrev pub IsDetail : Recorded → PageReason → LogName → ℕ → ℕ → Detail → Type 0
IsDetail s WrongRead log n page (Instead held) = (vcpu cell value : ℕ) → slice_get s.guest n ≡ Some (Read vcpu page cell value) → MatchOption held ⊥ (IsInstead s n page cell)
IsDetail s Early log n page (Seen look) = IsFurthestLook s n look
IsDetail s Stale log n page (Other held) = (content : List ℕ) → slice_get s.source n ≡ Some (Send page content) → IsOtherIn s page content held
IsDetail s Altered log n page (Other held) = (got : ℕ) (content : List ℕ) → slice_get s.pager n ≡ Some (Place page got content) → IsOtherIn s page content held
IsDetail s Over log n page (Seen look) = IsLookBeforeTouch s page look
IsDetail s Given log n page Plain = Unit {0}
IsDetail s Twice log n page Plain = Unit {0}
IsDetail s Unfit log n page Plain = Unit {0}
IsDetail s reason log n page detail = ⊥

-- whether the page is never placed, and is needed by its first use at the target, which is not a release
abbrev pub unplaced : Option ℕ → Option ℕ → Bool → Bool
unplaced placement touch releases = not (is_some placement) && is_some touch && not releases

abbrev pub is_unplaced : Findings → Bool
is_unplaced f = unplaced f.placement f.touch f.releases

-- the page's first use at the target
abbrev pub first_touch : Recorded → ℕ → Option ℕ
first_touch s page = first_before (is_late_touch s page) s.guest (length s.guest)

-- the page's first placement
abbrev pub first_placement : Recorded → ℕ → Option ℕ
first_placement s page = first_before (λ m. is_placement_of page) s.pager (length s.pager)

abbrev pub IsUnplaced : Recorded → ℕ → Type 0
IsUnplaced s page = unplaced (first_placement s page) (first_touch s page) (releases_at s (first_touch s page)) ≡ true

-- The page's first placement gives the read its value that is guest record n, and the cell had another one at the halt.
pub record IsGivenWrong (s : Recorded) (n page place : ℕ) (held : CellValue) : Type 0 where
  pub is_first : first_placement s page ≡ Some place
  pub gives : IsGiver s n place
  pub other : IsOtherAtHalt s n held

abbrev pub IsGivenRight : Recorded → ℕ → ℕ → Type 0
IsGivenRight s n page = (place : ℕ) (held : CellValue) → IsGivenWrong s n page place held → ⊥

-- the page's first `send` has another value in this cell than the page has there at the halt
pub record IsWrongSend (s : Recorded) (page : ℕ) (held : CellValue) (place : ℕ) : Type 0 where
  pub value : ℕ
  pub is_first : first_before (λ m. is_send_of page) s.source (length s.source) ≡ Some place
  pub sends : value_at s (Source, place) held.cell ≡ Some value
  pub differs : value ≢ held.value

abbrev pub IsSentRight : Recorded → ℕ → CellValue → Type 0
IsSentRight s page held = (place : ℕ) → IsWrongSend s page held place → ⊥

-- The first placement gives the read a wrong value, and this `send` had one before.
pub record IsSentWrong (s : Recorded) (n page place : ℕ) (held : CellValue) : Type 0 where
  pub placement : ℕ
  pub given : IsGivenWrong s n page placement held
  pub sends : IsWrongSend s page held place

-- whether a record places a page as zeros
abbrev pub is_zero : PagerRec → Bool
is_zero (Zero page) = true
is_zero _ = false

-- This first placement gives the read a wrong value, no `send` had one before, and it is one of zeros or not.
pub record IsPlacedWrong (s : Recorded) (n page place : ℕ) (held : CellValue) (zeros : Bool) : Type 0 where
  pub given : IsGivenWrong s n page place held
  pub sent : IsSentRight s page held
  pub is_of_zeros : passes is_zero (slice_get s.pager place) ≡ zeros

-- a placement gives the read its value that is guest record n, and is not the page's first
pub record IsPlacedAgain (s : Recorded) (n page q : ℕ) : Type 0 where
  pub gives : IsGiver s n q
  pub is_later : first_placement s page ≢ Some q

abbrev pub IsPlacedOnce : Recorded → ℕ → ℕ → Type 0
IsPlacedOnce s n page = (q : ℕ) → IsPlacedAgain s n page q → ⊥

-- This first placement of the page gives the read its value, and the page's first use at the target is a release.
pub record IsPlacedOver (s : Recorded) (n page place : ℕ) (look : Option Look) : Type 0 where
  pub is_first : first_placement s page ≡ Some place
  pub gives : IsGiver s n place
  pub releases : releases_at s (first_touch s page) ≡ true
  pub seen : IsLookBeforeTouch s page look

-- An order may have the page's first placement after this first use of it at the target, which is no release.
pub record IsUsedEarly (s : Recorded) (page touch : ℕ) (look : Option Look) : Type 0 where
  pub place : ℕ
  pub is_first : first_placement s page ≡ Some place
  pub is_touch : first_touch s page ≡ Some touch
  pub needs : releases_at s (first_touch s page) ≡ false
  pub follows : MayFollow s place touch
  pub seen : IsFurthestLook s touch look

-- the page is used at the target before it comes, or it does not come
abbrev pub IsMissing : Recorded → ℕ → PageCause → Type 0
IsMissing s page (UsedEarly touch look) = IsUsedEarly s page touch look
IsMissing s page Unplaced = IsUnplaced s page
IsMissing s page _ = ⊥

-- What went wrong with a page before the read that is guest record n. A placement gives the read its value: the first,
-- which is wrong itself, or comes over a release; or a later one. Or, if no later one does and none is wrong, the page
-- is missing.
abbrev pub IsWrong : Recorded → ℕ → ℕ → PageCause → Type 0
IsWrong s n page (Sent w) = IsSentWrong s n page w.place w.held
IsWrong s n page (Placed w) = IsPlacedWrong s n page w.place w.held false
IsWrong s n page (Zeroed place) = (held : CellValue) × IsPlacedWrong s n page place held true
IsWrong s n page (Again q) = IsPlacedAgain s n page q
IsWrong s n page (PlacedOver place look) = IsGivenRight s n page × IsPlacedOver s n page place look
IsWrong s n page c = IsGivenRight s n page × (IsPlacedOnce s n page × IsMissing s page c)

-- whether the first use, if there is one, comes no later than guest record n
abbrev pub is_used_by : Option ℕ → ℕ → Bool
is_used_by None n = false
is_used_by (Some first) n = nat_le first n

abbrev pub is_read : PageReason → Bool
is_read WrongRead = true
is_read _ = false

-- a read at the target has this cause; it has none
abbrev pub IsExplained : Recorded → ℕ → ℕ → PageCause → Type 0
IsExplained s n page c = (is_used_by (first_touch s page) n ≡ true) × IsWrong s n page c

abbrev pub IsUnexplained : Recorded → ℕ → ℕ → Type 0
IsUnexplained s n page = (c : PageCause) → IsExplained s n page c → ⊥

-- what is wrong if there is no such cause: the cell's last change is lost, or a record is missing
abbrev pub IsLeft : Recorded → ℕ → PageCause → Type 0
IsLeft s n (Lost l) = IsLost s n l
IsLeft s n Unrecorded = (l : LostChange) → IsLost s n l → ⊥
IsLeft s n _ = ⊥

-- this is a wrong read, and this is its cause
pub record IsCause (s : Recorded) (reason : PageReason) (n page : ℕ) (c : PageCause) : Type 0 where
  pub reads : is_read reason ≡ true
  pub wrong : IsExplained s n page c ⊎ (IsUnexplained s n page × IsLeft s n c)

-- the cause in the story, or there is none
abbrev pub IsToldCause : Recorded → PageReason → ℕ → ℕ → Option PageCause → Type 0
IsToldCause s reason n page cause = MatchOption cause ((c : PageCause) → IsCause s reason n page c → ⊥) (IsCause s reason n page)

-- Whether each order shows a fault. An early use: if no order has a placement of its page before it. A placement over a
-- release: if no order has a placement of the page before this release. Any other fault: always.
abbrev pub IsInEveryOrder : Recorded → PageReason → ℕ → ℕ → Type 0
IsInEveryOrder s Early n page = (order : List Name) → IsMerging s order → UnplacedBefore s order page (Guest, n)
IsInEveryOrder s Over n page = (release : ℕ) → first_touch s page ≡ Some release → (order : List Name) → IsMerging s order → UnplacedBefore s order page (Guest, release)
IsInEveryOrder s reason n page = Unit {0}

-- For a session of the right shape, the story says that each order shows the fault exactly when each does, and then the
-- demand at the faulty record fails in each.
pub record IsToldOfOrders (s : Recorded) (f : FaultStory) : Type 0 where
  pub exactly : IsRightShape s → Decides f.in_every_order (IsInEveryOrder s f.fault.reason f.fault.place f.page.page)
  pub breaks : IsRightShape s → f.in_every_order ≡ true → (order : List Name) → IsMerging s order → BreaksAt s order (f.fault.log, f.fault.place)

-- The story of a fault of a page: the story of the page, and what the story says about the fault.
pub record IsFaultStory (s : Recorded) (f : FaultStory) : Type 0 where
  pub is_of : page_at s (f.fault.log, f.fault.place) ≡ Some f.page.page
  pub page : IsPageStory s f.page.page f.page
  pub handover : IsHandover s f.handover
  pub detail : IsDetail s f.fault.reason f.fault.log f.fault.place f.page.page f.detail
  pub cause : IsToldCause s f.fault.reason f.fault.place f.page.page f.cause
  pub orders : IsToldOfOrders s f

-- The story of the report's fault, which is the session's first fault of a page and is at this line.
pub record IsReportedStory (s : Recorded) (line : ℕ) (fault : PageFault) (f : FaultStory) : Type 0 where
  pub is_line : line ≡ line_of s (fault.log, fault.place)
  pub is_fault : f.fault ≡ fault
  pub is_first : IsFirstPageFault s fault.reason (fault.log, fault.place)
  pub story : IsFaultStory s f

-- this many pages have a fault besides that of the session's first fault
abbrev pub AreMoreFaulty : Recorded → ℕ → Type 0
AreMoreFaulty s more = AreManyFaulty s (more + 1)

-- the first record that does not have the right shape, and the earlier records of its kind
pub record IsShapeStory (s : Recorded) (fault : ShapeFault) (t : ShapeStory) : Type 0 where
  pub is_line : fault.line ≡ line_of s (fault.log, fault.place)
  pub is_fault : t.fault ≡ fault
  pub is_first : IsFirstFault s fault.reason (fault.log, fault.place)
  pub handover : IsHandover s t.handover
  pub sent : t.sent ≡ sent_before s (fault.log, fault.place)

-- of these pages with a fault, the one whose fault has the least line
pub record IsLeastOf (found : List FaultyPage) (f : FaultyPage) : Type 0 where
  pub is_among : Contains found f
  pub is_least : All (λ other. f.line ≤ other.line) found

-- Of the faulty pages that misshapen records do not touch, the story of the one whose fault has the least line, and how
-- many others there are.
pub record IsApartStory (s : Recorded) (t : ApartStory) : Type 0 where
  pub found : List FaultyPage
  pub are_apart : AreFaultyApart s found
  pub first : FaultyPage
  pub is_first : IsLeastOf found first
  pub is_fault : t.story.fault ≡ first.fault
  pub story : IsFaultStory s t.story
  pub many : length found ≡ t.more + 1

-- the story of a session with this report
abbrev pub IsExplanation : Recorded → Report → Explanation → Type 0
IsExplanation s (report.Shape fault) (told.Shape story apart) = IsShapeStory s fault story × MatchOption apart (AreFaultyApart s []) (IsApartStory s)
IsExplanation s (report.Knot left found) (told.Knot knot) = IsCircle s knot
IsExplanation s (report.Faulty line fault order many) (told.Faulty story more) = IsReportedStory s line fault story × AreMoreFaulty s more
IsExplanation s (report.Clean cert) (told.Clean counts) = IsCounts s cert.entries counts
IsExplanation s _ _ = ⊥
