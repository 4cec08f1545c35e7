-- What the heading of a picture says about the order that is shown.
use Rattle.std.specs.Prelude.{ℕ, Option, Some, None, if◌then◌else◌}
use Rattle.audit_report.specs.declared.report.Report.{Report}
use Rattle.audit_report.specs.declared.report.Report.TheVariants as report
use Rattle.session_story.specs.declared.topic_stories.TopicStory.{TopicStory}
use Rattle.session_story.specs.declared.topic_stories.TopicStory.TheVariants as told
use Rattle.session_story.specs.Amended.{is_always_wrong}
use Rattle.order_picture.specs.declared.shown.OrderShown.{OrderShown}
use Rattle.order_picture.specs.declared.shown.OrderShown.TheVariants.{EveryOrder, OneOrder, FirstFault, Found, FoundPart, Given, GivenPart}
use Rattle.order_picture.specs.declared.shown.Shown.{Shown}
use Rattle.order_picture.specs.declared.shown.Shown.TheVariants as shown
use Rattle.order_picture.specs.declared.picture.Picture.{Picture}

-- an order that shows a fault of the session, given the story
abbrev pub faulty_order : TopicStory → OrderShown
faulty_order (told.Report explanation) = if is_always_wrong explanation then EveryOrder else OneOrder
faulty_order t = FirstFault

-- the found order, given the first of its runs that cannot be taken
abbrev pub found_order : Option ℕ → OrderShown
found_order None = Found
found_order (Some place) = FoundPart

-- given runs, and the first of them that cannot be taken
abbrev pub given_order : Option ℕ → OrderShown
given_order None = Given
given_order (Some place) = GivenPart place

-- the order of a report
abbrev pub reported_order : Report → Picture → OrderShown
reported_order (report.Faulty line fault order many) p = faulty_order p.told
reported_order r p = found_order p.bad

-- what the heading says about the order that a picture shows
abbrev pub order_shown : Report → Picture → Shown → OrderShown
order_shown r p shown.Reported = reported_order r p
order_shown r p shown.Given = given_order p.bad
