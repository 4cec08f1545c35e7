-- The story of a page: the records that say how it came from the source to the target.
use Rattle.std.specs.Prelude.{◌≡◌, ℕ, Bool, false, ◌==◌, nat_lt, List, length, Option, Some, None, slice_get, if◌then◌else◌}
use Rattle.migration_types.specs.declared.records.GuestRec.{GuestRec}
use Rattle.migration_types.specs.declared.records.GuestRec.TheVariants.{Read, Write, Release}
use Rattle.migration_types.specs.declared.records.LogName.TheVariants.{Source}
use Rattle.migration_types.specs.declared.records.SourceRec.{SourceRec}
use Rattle.migration_types.specs.declared.records.SourceRec.TheVariants.{Send}
use Rattle.migration_types.specs.declared.records.LinkRec.{LinkRec}
use Rattle.migration_types.specs.declared.records.LinkRec.TheVariants.{Down, Up}
use Rattle.migration_types.specs.declared.records.LaneRec.{LaneRec}
use Rattle.migration_types.specs.declared.records.LaneRec.TheVariants.{Down as LaneDown}
use Rattle.migration_types.specs.Receipts.{Name}
use Rattle.migration_types.specs.Sessions.{Recorded}
use Rattle.audit_model.specs.Flat.{at_halt}
use Rattle.audit_model.specs.Shape.{passes, is_halt, is_resume, is_send_of, is_or_repeats, delivers}
use Rattle.page_facts.specs.Tables.{first_before}
use Rattle.page_facts.specs.Findings.{IsFindings}
use Rattle.session_story.specs.Scans.{last_before}
use Rattle.session_story.specs.declared.pages.PageStory.{PageStory}
use Rattle.session_story.specs.declared.pages.Handover.{Handover}

-- a write or a release of the page
abbrev pub changes : ℕ → GuestRec → Bool
changes page (Write vcpu p cell value) = p == page
changes page (Release vcpu p) = p == page
changes page _ = false

-- whether guest record n reads or writes some page after the record of this number
abbrev pub is_access_after : ℕ → ℕ → GuestRec → Bool
is_access_after resume n (Read vcpu p cell value) = nat_lt resume n
is_access_after resume n (Write vcpu p cell value) = nat_lt resume n
is_access_after resume n _ = false

-- whether the source's record n is the page's `send`, or a repeat of it
abbrev pub sends : Recorded → ℕ → ℕ → Bool
sends s page n = passes (is_or_repeats s (is_send_of page)) (slice_get s.source n)

-- a delivery of the page's `send`, or of a repeat of it, by the link or by the lane
abbrev pub carries : Recorded → ℕ → LinkRec → Bool
carries s page (Down sending) = sends s page sending
carries s page (Up asking) = false

abbrev pub lane_carries : Recorded → ℕ → LaneRec → Bool
lane_carries s page (LaneDown sending) = sends s page sending

-- the halt and the resume
pub record IsHandover (s : Recorded) (h : Handover) : Type 0 where
  pub halt : h.halt ≡ first_before (λ m. is_halt) s.guest (length s.guest)
  pub resume : h.resume ≡ first_before (λ m. is_resume) s.guest (length s.guest)

-- The last change of the page before the halt, its `send`, the first delivery of that packet by the link and by the
-- lane, the first record of the pager that takes one, and what the logs say about the page's placements, its uses and
-- the looks at it.
pub record IsPageStory (s : Recorded) (page : ℕ) (t : PageStory) : Type 0 where
  pub page_is : t.page ≡ page
  pub changed : t.changed ≡ last_before (λ m. changes page) s.guest (at_halt s)
  pub sent : t.sent ≡ first_before (λ m. is_send_of page) s.source (length s.source)
  pub delivered : t.delivered ≡ first_before (λ m. carries s page) s.link (length s.link)
  pub by_lane : t.by_lane ≡ first_before (λ m. lane_carries s page) s.lane (length s.lane)
  pub got : t.got ≡ first_before (λ m r. delivers s (is_send_of page) m) s.pager (length s.pager)
  pub found : IsFindings s page t.found

-- the number, if it is below n
abbrev pub below : ℕ → Option ℕ → Option ℕ
below n None = None
below n (Some m) = if nat_lt m n then Some m else None

-- if source record n is a `send`, the first one of its page, if that comes before it
abbrev pub sent_before_by : List SourceRec → ℕ → Option SourceRec → Option ℕ
sent_before_by source n (Some (Send page content)) = below n (first_before (λ m. is_send_of page) source (length source))
sent_before_by source n _ = None

abbrev pub sent_before : Recorded → Name → Option ℕ
sent_before s (Source, n) = sent_before_by s.source n (slice_get s.source n)
sent_before s _ = None
