-- The cause of a fault of a page: what went wrong, with which record, and the record that this is set against.
use Rattle.std.specs.Prelude.{ℕ, List, Option, Some, None, codes}
use Rattle.std.specs.Option.{option_map}
use Rattle.migration_types.specs.declared.records.LogName.TheVariants.{Guest, Source, Pager}
use Rattle.migration_types.specs.Receipts.{Name}
use Rattle.audit_model.specs.declared.reasons.PageReason.{PageReason}
use Rattle.audit_model.specs.declared.reasons.PageReason.TheVariants as page
use Rattle.session_story.specs.Named.{furthest, named_in}
use Rattle.session_story.specs.declared.pages.PageStory.{PageStory}
use Rattle.session_story.specs.Concerned.{concerned_by, giver_of}
use Rattle.session_story.specs.Topics.{fault_in}
use Rattle.session_story.specs.declared.causes.Cause.{Cause}
use Rattle.session_story.specs.declared.causes.CauseKind.{CauseKind}
use Rattle.session_story.specs.declared.causes.CauseKind.TheVariants as kind
use Rattle.session_story.specs.declared.fault_stories.FaultStory.{FaultStory}
use Rattle.session_story.specs.declared.fault_stories.PageCause.{PageCause}
use Rattle.session_story.specs.declared.fault_stories.PageCause.TheVariants.{Sent, Placed, Zeroed, Again, Over, Early, Unplaced, Lost, Unrecorded}
use Rattle.session_story.specs.declared.topic_stories.TopicStory.{TopicStory}

abbrev pub kind_word : CauseKind → List ℕ
kind_word kind.StaleSend = codes "stale-send"
kind_word kind.GivenSend = codes "given-send"
kind_word kind.Altered = codes "altered"
kind_word kind.Zeroed = codes "zeroed"
kind_word kind.PlacedAgain = codes "placed-again"
kind_word kind.PlacedOver = codes "placed-over"
kind_word kind.Early = codes "early"
kind_word kind.NeverPlaced = codes "never-placed"
kind_word kind.LostWrite = codes "lost-write"
kind_word kind.Unrecorded = codes "unrecorded"

-- what went wrong before a wrong read
abbrev pub kind_of : PageCause → CauseKind
kind_of (Sent w) = kind.StaleSend
kind_of (Placed w) = kind.Altered
kind_of (Zeroed q) = kind.Zeroed
kind_of (Again q) = kind.PlacedAgain
kind_of (Over q look) = kind.PlacedOver
kind_of (Early n look) = kind.Early
kind_of Unplaced = kind.NeverPlaced
kind_of (Lost l) = kind.LostWrite
kind_of Unrecorded = kind.Unrecorded

-- the last record that has a page, on its way to the target
abbrev pub came_to : PageStory → Option Name
came_to t = furthest t.got t.delivered t.by_lane t.sent

-- the record with which a page went wrong before a wrong read
abbrev pub blamed_of : PageStory → PageCause → Option Name
blamed_of t (Sent w) = Some (Source, w.place)
blamed_of t (Placed w) = Some (Pager, w.place)
blamed_of t (Zeroed q) = Some (Pager, q)
blamed_of t (Again q) = Some (Pager, q)
blamed_of t (Over q look) = Some (Pager, q)
blamed_of t (Early n look) = Some (Guest, n)
blamed_of t Unplaced = named_in Guest t.found.touch
blamed_of t (Lost l) = Some (Guest, l.change)
blamed_of t Unrecorded = None

-- The record that the cause of a wrong read is set against. For a wrong value, the change that it lacks. For zeros, the
-- page's last change before the halt. For a second placement, the change that it undoes. For one over a release, this
-- release; for an early use, the first placement; for a page that never comes, the last record that has it. For a lost
-- change, the read.
abbrev pub against_of : FaultStory → PageCause → Option Name
against_of f (Sent w) = named_in Guest w.held.by
against_of f (Placed w) = named_in Guest w.held.by
against_of f (Zeroed q) = named_in Guest f.page.changed
against_of f (Again q) = giver_of f.detail
against_of f (Over q look) = named_in Guest f.page.found.touch
against_of f (Early n look) = named_in Pager f.page.found.placement
against_of f Unplaced = came_to f.page
against_of f (Lost l) = Some (f.fault.log, f.fault.place)
against_of f Unrecorded = None

-- what went wrong with a record that is its own cause, given the first placement of its page
abbrev pub kind_for : PageReason → Option ℕ → CauseKind
kind_for page.Read placement = kind.Unrecorded
kind_for page.Early None = kind.NeverPlaced
kind_for page.Early (Some placement) = kind.Early
kind_for page.Given placement = kind.GivenSend
kind_for page.Stale placement = kind.StaleSend
kind_for page.Twice placement = kind.PlacedAgain
kind_for page.Altered placement = kind.Altered
kind_for page.Unfit placement = kind.Zeroed
kind_for page.Over placement = kind.PlacedOver

-- a fault that is its own cause is set against the record that it concerns, or the last one that has its page
abbrev pub against_for : FaultStory → CauseKind → Option Name
against_for f kind.NeverPlaced = came_to f.page
against_for f _ = concerned_by f

abbrev pub own_cause_as : FaultStory → CauseKind → Cause
own_cause_as f kind = record { kind = kind; blamed = Some (f.fault.log, f.fault.place); against = against_for f kind }

abbrev pub own_cause : FaultStory → Cause
own_cause f = own_cause_as f (kind_for f.fault.reason f.page.found.placement)

-- the cause of a fault: that of a wrong read, or else the faulty record itself
abbrev pub cause_with : FaultStory → Option PageCause → Cause
cause_with f (Some c) = record { kind = kind_of c; blamed = blamed_of f.page c; against = against_of f c }
cause_with f None = own_cause f

abbrev pub cause_by : FaultStory → Cause
cause_by f = cause_with f f.cause

abbrev pub cause_for : Option FaultStory → Option Cause
cause_for fault = option_map cause_by fault

-- the cause of the fault that the story tells
abbrev pub cause_of : TopicStory → Option Cause
cause_of t = cause_for (fault_in t)
