-- What is wrong in a faulty record and what would be right, which uses of its page the story tells, and whether each
-- order shows the fault.
use Rattle.std.specs.Prelude.{ℕ, Bool, false, ◌==◌, ◌&&◌, ◌||◌, Option, Some, None}
use Rattle.migration_types.specs.declared.records.LogName.TheVariants.{Guest}
use Rattle.migration_types.specs.Sessions.{Recorded}
use Rattle.audit_model.specs.Names.{same_log}
use Rattle.session_story.specs.declared.amends.Amended.{Amended}
use Rattle.session_story.specs.declared.values.CellValue.{CellValue}
use Rattle.session_story.specs.declared.fault_stories.PageCause.{PageCause}
use Rattle.session_story.specs.declared.fault_stories.PageCause.TheVariants.{Sent, Placed, Lost}
use Rattle.session_story.specs.declared.fault_stories.Detail.{Detail}
use Rattle.session_story.specs.declared.fault_stories.Detail.TheVariants.{Instead, Other}
use Rattle.session_story.specs.declared.fault_stories.FaultStory.{FaultStory}
use Rattle.session_story.specs.declared.explanations.Explanation.{Explanation}
use Rattle.session_story.specs.declared.explanations.Explanation.TheVariants as told
use Rattle.session_story.specs.declared.topic_stories.FullPageStory.{FullPageStory}
use Rattle.session_story.specs.declared.topic_stories.TopicStory.{TopicStory}
use Rattle.session_story.specs.Concerned.{given_in}
use Rattle.session_story.specs.Topics.{fault_in, page_in}
use Rattle.session_story.specs.RecordValues.{value_at}

-- what the story says about a cell, if anything
abbrev pub held_in : Detail → Option CellValue
held_in (Instead held) = held
held_in (Other held) = held
held_in detail = None

abbrev pub amended_with : ℕ → CellValue → Option ℕ → Option Amended
amended_with page held None = None
amended_with page held (Some wrong) = Some (record { page = page; cell = held.cell; wrong = wrong; right = held.value })

abbrev pub amended_in : Recorded → FaultStory → Option CellValue → Option Amended
amended_in s story None = None
amended_in s story (Some held) = amended_with story.page.page held (value_at s (story.fault.log, story.fault.place) held.cell)

abbrev pub amended_for : Recorded → Option FaultStory → Option Amended
amended_for s None = None
amended_for s (Some story) = amended_in s story (held_in story.detail)

-- the wrong value in the faulty record, and the right one
abbrev pub amended_by : Recorded → TopicStory → Option Amended
amended_by s told = amended_for s (fault_in told)

abbrev pub cause_in : Option PageCause → Option ℕ
cause_in (Some (Sent wrong)) = wrong.held.by
cause_in (Some (Placed wrong)) = wrong.held.by
cause_in (Some (Lost lost)) = lost.since
cause_in cause = None

-- whether it is this number, if there is one
abbrev pub is_number : Option ℕ → ℕ → Bool
is_number None n = false
is_number (Some m) n = m == n

-- whether the story of a fault tells the guest's record of this number
abbrev pub tells_in : FaultStory → ℕ → Bool
tells_in story n =
    (same_log story.fault.log Guest && (story.fault.place == n))
    || (is_number story.page.changed n
    || (is_number story.page.found.touch n
    || (is_number (given_in story.detail) n
    || is_number (cause_in story.cause) n)))

abbrev pub tells_for : Option FaultStory → ℕ → Bool
tells_for None n = false
tells_for (Some story) n = tells_in story n

-- whether the story of a page tells the guest's record of this number
abbrev pub tells_on : Option FullPageStory → ℕ → Bool
tells_on None n = false
tells_on (Some t) n = is_number t.story.changed n || is_number t.story.found.touch n

abbrev pub tells_of : TopicStory → ℕ → Bool
tells_of told n = tells_for (fault_in told) n || tells_on (page_in told) n

-- whether every order of the records shows the fault of the story
abbrev pub is_always_wrong : Explanation → Bool
is_always_wrong (told.Faulty story more) = story.in_every_order
is_always_wrong other = false
