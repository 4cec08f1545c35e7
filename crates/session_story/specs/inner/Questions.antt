-- The questions about records, as tests.
use Rattle.std.specs.Prelude.{ℕ, Bool, false, ◌&&◌, nat_le, nat_lt, Option, Some, None, if◌then◌else◌}
use Rattle.migration_types.specs.declared.cert.Entry.{Entry}
use Rattle.migration_types.specs.declared.records.GuestRec.{GuestRec}
use Rattle.migration_types.specs.declared.records.GuestRec.TheVariants.{See}
use Rattle.migration_types.specs.declared.records.SourceRec.{SourceRec}
use Rattle.migration_types.specs.declared.records.LinkRec.{LinkRec}
use Rattle.migration_types.specs.declared.records.LaneRec.{LaneRec}
use Rattle.migration_types.specs.declared.records.PagerRec.{PagerRec}
use Rattle.migration_types.specs.declared.records.PagerRec.TheVariants.{Fault}
use Rattle.migration_types.specs.Sessions.{Recorded}
use Rattle.audit_model.specs.Certificates.{is_fresh}
use Rattle.audit_model.specs.Shape.{is_halt, is_resume, is_miss, is_send_of, is_placement_of, is_want, delivers}
use Rattle.session_story.specs.Pages.{changes, carries, lane_carries, is_access_after}
use Rattle.session_story.specs.Values.{sets}
use Rattle.session_story.specs.Giving.{is_unseen, puts}
use Rattle.session_story.specs.Losing.{gives}
use Rattle.session_story.specs.Counted.{is_unmoved, is_sent, is_zeroed, is_used, is_send, is_again, is_join, is_skip, is_read_after}
use Rattle.session_story.specs.declared.looks.Look.{Look}
use Rattle.session_story.specs.declared.questions.GuestQuestion.{GuestQuestion}
use Rattle.session_story.specs.declared.questions.GuestQuestion.TheVariants as guest
use Rattle.session_story.specs.declared.questions.SourceQuestion.{SourceQuestion}
use Rattle.session_story.specs.declared.questions.SourceQuestion.TheVariants as source
use Rattle.session_story.specs.declared.questions.LinkQuestion.{LinkQuestion}
use Rattle.session_story.specs.declared.questions.LinkQuestion.TheVariants as link
use Rattle.session_story.specs.declared.questions.LaneQuestion.{LaneQuestion}
use Rattle.session_story.specs.declared.questions.LaneQuestion.TheVariants as lane
use Rattle.session_story.specs.declared.questions.PagerQuestion.{PagerQuestion}
use Rattle.session_story.specs.declared.questions.PagerQuestion.TheVariants as pager
use Rattle.session_story.specs.declared.questions.EntryQuestion.{EntryQuestion}
use Rattle.session_story.specs.declared.questions.EntryQuestion.TheVariants as entry

abbrev pub asks_guest : GuestQuestion → Recorded → ℕ → GuestRec → Bool
asks_guest guest.Halt s n = is_halt
asks_guest guest.Resume s n = is_resume
asks_guest guest.Miss s n = is_miss
asks_guest (guest.Changes page) s n = changes page
asks_guest (guest.Sets page cell) s n = sets page cell
asks_guest (guest.Gives page cell value) s n = gives page cell value
asks_guest (guest.AccessAfter resume) s n = is_access_after resume n
asks_guest (guest.ReadAfter resume) s n = is_read_after resume n

abbrev pub asks_source : SourceQuestion → Recorded → ℕ → SourceRec → Bool
asks_source (source.SendOf page) s n = is_send_of page
asks_source source.Send s n = is_send
asks_source source.Again s n = is_again

abbrev pub asks_link : LinkQuestion → Recorded → ℕ → LinkRec → Bool
asks_link (link.Carries page) s n = carries s page

abbrev pub asks_lane : LaneQuestion → Recorded → ℕ → LaneRec → Bool
asks_lane (lane.Carries page) s n = lane_carries s page

-- whether a record knows of a miss behind guest record n
abbrev pub knows_behind : ℕ → PagerRec → Bool
knows_behind n (Fault miss) = nat_lt n miss
knows_behind n _ = false

abbrev pub asks_pager : PagerQuestion → Recorded → ℕ → PagerRec → Bool
asks_pager (pager.Gets page) s n = λ r. delivers s (is_send_of page) n
asks_pager pager.Want s n = is_want
asks_pager pager.Join s n = is_join
asks_pager pager.Skip s n = is_skip
asks_pager (pager.PlacesUpTo page last) s n = λ r. is_placement_of page r && nat_le n last
asks_pager (pager.Puts page cell value behind from) s n = λ r. puts page cell value r && (is_unseen behind n && nat_le from n)
asks_pager (pager.KnowsBehind m) s n = knows_behind m

abbrev pub asks_entry : EntryQuestion → Recorded → ℕ → Entry → Bool
asks_entry entry.Unmoved s n = is_unmoved
asks_entry entry.Fresh s n = is_fresh
asks_entry entry.Sent s n = is_sent
asks_entry entry.Zeroed s n = is_zeroed
asks_entry entry.Used s n = is_used

-- the look that reaches further: this one, or the one before it
abbrev pub further : Look → Option Look → Option Look
further new None = Some new
further new (Some old) = if nat_lt old.placement new.placement then Some new else Some old

-- the look that reaches furthest, after this record
abbrev pub looked : ℕ → GuestRec → Option Look → Option Look
looked n (See k) best = further (record { place = n; placement = k }) best
looked n _ best = best
