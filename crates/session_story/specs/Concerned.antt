-- The other record in the story of a fault: the one that the fault concerns.
use Rattle.std.specs.Prelude.{ℕ, ◌==◌, Bool, false, Option, Some, None, slice_get, if◌then◌else◌}
use Rattle.migration_types.specs.declared.records.LogName.TheVariants.{Guest, Source, Pager}
use Rattle.migration_types.specs.declared.records.GuestRec.{GuestRec}
use Rattle.migration_types.specs.declared.records.GuestRec.TheVariants as guest
use Rattle.migration_types.specs.Receipts.{Name}
use Rattle.migration_types.specs.Sessions.{Recorded}
use Rattle.audit_model.specs.declared.reasons.PageReason.{PageReason}
use Rattle.audit_model.specs.declared.reasons.PageReason.TheVariants as page
use Rattle.audit_model.specs.declared.reasons.ShapeReason.{ShapeReason}
use Rattle.audit_model.specs.declared.reasons.ShapeReason.TheVariants as shape
use Rattle.session_story.specs.declared.pages.Handover.{Handover}
use Rattle.session_story.specs.declared.fault_stories.Detail.{Detail}
use Rattle.session_story.specs.declared.fault_stories.Detail.TheVariants.{Instead, Other}
use Rattle.session_story.specs.declared.fault_stories.FaultStory.{FaultStory}
use Rattle.session_story.specs.declared.fault_stories.ShapeStory.{ShapeStory}
use Rattle.session_story.specs.declared.explanations.Explanation.TheVariants as explained
use Rattle.session_story.specs.declared.topic_stories.TopicStory.{TopicStory}
use Rattle.session_story.specs.declared.topic_stories.TopicStory.TheVariants as told
use Rattle.session_story.specs.Named.{named_by, named_in}
use Rattle.session_story.specs.Topics.{fault_in}

-- the number of the guest's record that gave a cell its value in the story
abbrev pub given_in : Detail → Option ℕ
given_in (Instead (Some held)) = held.by
given_in (Other (Some held)) = held.by
given_in detail = None

abbrev pub giver_of : Detail → Option Name
giver_of detail = named_in Guest (given_in detail)

-- The record that a fault with this reason concerns. For a wrong value, the record that gave the right one. For a page
-- that must not be sent, or not be placed as zeros, its last change before the halt. For an early use or a second
-- placement, the first placement. For other contents than were sent, the `send`. For a placement over a release, this
-- release.
abbrev pub concerned_for : PageReason → FaultStory → Option Name
concerned_for page.Read story = giver_of story.detail
concerned_for page.Stale story = giver_of story.detail
concerned_for page.Given story = named_in Guest story.page.changed
concerned_for page.Unfit story = named_in Guest story.page.changed
concerned_for page.Early story = named_in Pager story.page.found.placement
concerned_for page.Twice story = named_in Pager story.page.found.placement
concerned_for page.Altered story = named_in Source story.page.sent
concerned_for page.Over story = named_in Guest story.page.found.touch

abbrev pub concerned_by : FaultStory → Option Name
concerned_by story = concerned_for story.fault.reason story

-- whether the number is this one
abbrev pub is_number : ℕ → Option ℕ → Bool
is_number n None = false
is_number n (Some m) = m == n

-- The record of the handover that the guest's record n must take into account: for a second halt or resume, the first;
-- for the first resume, the halt; for what needs the target, the resume; and for anything else, the halt.
abbrev pub heeded : Handover → ℕ → Option GuestRec → Option ℕ
heeded h n (Some (guest.Resume ready)) = if is_number n h.resume then h.halt else h.resume
heeded h n (Some (guest.Miss vcpu page)) = h.resume
heeded h n (Some (guest.See placement)) = h.resume
heeded h n other = h.halt

-- the resume of a guest that the source starts again
abbrev pub resumed_for : ShapeReason → Handover → Option ℕ
resumed_for shape.Both h = h.resume
resumed_for reason h = None

abbrev pub resumed_by : ShapeStory → Option ℕ
resumed_by story = resumed_for story.fault.reason story.handover

-- the record that this fault of a record's shape concerns
abbrev pub shape_concerned_for : Recorded → ShapeReason → ShapeStory → Option Name
shape_concerned_for s shape.Phases story = named_in Guest (heeded story.handover story.fault.place (slice_get s.guest story.fault.place))
shape_concerned_for s shape.Named story = named_by s (story.fault.log, story.fault.place)
shape_concerned_for s shape.Start story = None
shape_concerned_for s shape.SecondSend story = named_in Source story.sent
shape_concerned_for s shape.Both story = named_in Guest (resumed_by story)

abbrev pub shape_concerned_by : Recorded → ShapeStory → Option Name
shape_concerned_by s story = shape_concerned_for s story.fault.reason story

abbrev pub concerned_in : Option FaultStory → Option Name
concerned_in None = None
concerned_in (Some story) = concerned_by story

-- the record that the story tells besides the faulty one, because the fault concerns it
abbrev pub concerned_of : Recorded → TopicStory → Option Name
concerned_of s (told.Report (explained.Shape story apart)) = shape_concerned_by s story
concerned_of s t = concerned_in (fault_in t)
