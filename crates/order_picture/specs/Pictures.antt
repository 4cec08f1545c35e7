-- The picture of a session's records in the order of a report, or along given runs, and what it is about.
use Rattle.std.specs.Prelude.{◌≡◌, ℕ, ◌≤◌, List, Option, Some, None, length, map, option_and_then, position}
use Rattle.std.specs.List.{list_any}
use Rattle.migration_types.specs.declared.cert.Run.{Run}
use Rattle.migration_types.specs.Receipts.{Name}
use Rattle.migration_types.specs.Sessions.{Recorded}
use Rattle.audit_model.specs.Mergings.{spelled}
use Rattle.audit_model.specs.Walks.{cursors_from}
use Rattle.audit_model.specs.Mergings.{at_start}
use Rattle.audit_model.specs.FoundOrder.{IsFoundOrder}
use Rattle.audit_report.specs.declared.report.Report.{Report}
use Rattle.audit_report.specs.declared.report.Report.TheVariants as report
use Rattle.merge_runs.specs.Taken.{cursors_of}
use Rattle.session_story.specs.declared.causes.Cause.{Cause}
use Rattle.session_story.specs.declared.fault_stories.FaultStory.{FaultStory}
use Rattle.session_story.specs.declared.topic_stories.FullPageStory.{FullPageStory}
use Rattle.session_story.specs.declared.topic_stories.TopicStory.{TopicStory}
use Rattle.session_story.specs.declared.topic_stories.TopicStory.TheVariants as told
use Rattle.migration_types.specs.declared.topic.Topic.{Topic}
use Rattle.session_story.specs.Causes.{cause_of}
use Rattle.session_story.specs.Concerned.{concerned_of}
use Rattle.session_story.specs.Named.{or_else}
use Rattle.session_story.specs.Subjects.{page_of}
use Rattle.session_story.specs.Topics.{IsTold, fault_in, page_in}
use Rattle.order_picture.specs.declared.focus.Focus.{Focus}
use Rattle.order_picture.specs.declared.picture.Picture.{Picture}
use Rattle.order_picture.specs.Marks.{is_one, mark_of}
use Rattle.order_picture.specs.OrderParts.{IsOrderPart}
use Rattle.order_picture.specs.Rows.{Covers, HasCertain, shows_fault, sender_of}

-- the faulty record of a report
abbrev pub fault_of : Report → Option Name
fault_of (report.Shape fault) = Some (fault.log, fault.place)
fault_of (report.Faulty line fault order many) = Some (fault.log, fault.place)
fault_of (report.Knot left found) = None
fault_of (report.Clean cert) = None

-- the record of a fault of a page, if there is one
abbrev pub faulty_in : Option FaultStory → Option Name
faulty_in None = None
faulty_in (Some story) = Some (story.fault.log, story.fault.place)

-- the faulty record that a picture is about: the report's, or that of the first fault of the story's page
abbrev pub fault_for : Report → TopicStory → Option Name
fault_for r (told.Report explanation) = fault_of r
fault_for r t = faulty_in (fault_in t)

abbrev pub number_in : Option FullPageStory → Option ℕ
number_in None = None
number_in (Some t) = Some t.story.page

-- the page that a picture is about: that of the report's faulty record, or that of the story
abbrev pub page_for : Recorded → Report → TopicStory → Option ℕ
page_for s r (told.Report explanation) = option_and_then (page_of s) (fault_of r)
page_for s r t = number_in (page_in t)

-- the record that is the cause, if there is one
abbrev pub blamed_in : Option Cause → Option Name
blamed_in None = None
blamed_in (Some cause) = cause.blamed

-- the record that the cause is set against, if there is one
abbrev pub against_in : Option Cause → Option Name
against_in None = None
against_in (Some cause) = cause.against

-- the record that the cause of the story's fault is set against, or else the one that the fault concerns
abbrev pub against_for : Recorded → TopicStory → Option Name
against_for s t = or_else (against_in (cause_of t)) (concerned_of s t)

-- what a picture is about, given the story: the faulty record, its page, the cause, and what it is set against
pub record IsFocus (s : Recorded) (r : Report) (t : TopicStory) (focus : Focus) : Type 0 where
  pub fault : focus.fault ≡ fault_for r t
  pub page : focus.page ≡ page_for s r t
  pub cause : focus.cause ≡ blamed_in (cause_of t)
  pub against : focus.against ≡ against_for s t

-- A picture of the records that the runs take, as far as they can be taken, with the story of the session on a topic.
-- Each record has its place in one row, and there are few rows. The faulty record has a row of its own, and so have the
-- records next to it, the cause, and the record that it is set against. Which records these are follows from the story.
-- Each row knows the row whose record it receives.
pub record IsPictureOf (s : Recorded) (r : Report) (topic : Topic) (runs : List Run) (p : Picture) : Type 0 where
  pub order : List Name
  pub part : IsOrderPart s runs order p.bad
  pub told : IsTold s r topic p.told
  pub focus : IsFocus s r p.told p.focus
  pub covers : Covers (mark_of s p.focus) p.rows.items order
  pub few : length p.rows.items ≤ 205
  pub shown : shows_fault p.rows.items ≡ list_any (is_one p.focus.fault) order
  pub certain : HasCertain (position (is_one p.focus.fault) order) (position (is_one p.focus.cause) order) (position (is_one p.focus.against) order) p.rows.items order
  pub senders : p.senders.items ≡ map (sender_of s p.rows.items) p.rows.items
  pub taken : cursors_of p.taken ≡ cursors_from at_start order

-- the runs along which a report is shown: those that show its fault or stop at its knot, or those of the found order
abbrev pub IsShownAlong : Recorded → Report → List Run → Type 0
IsShownAlong s (report.Shape fault) runs = IsFoundOrder s (spelled runs)
IsShownAlong s (report.Knot left found) runs = runs ≡ found.runs
IsShownAlong s (report.Faulty line fault order many) runs = runs ≡ order
IsShownAlong s (report.Clean cert) runs = runs ≡ cert.runs

-- the picture of a report on a topic
abbrev pub IsPicture : Recorded → Report → Topic → Picture → Type 0
IsPicture s r topic p = (runs : List Run) × IsShownAlong s r runs × IsPictureOf s r topic runs p
