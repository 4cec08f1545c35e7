-- The records that the story of a session names, as a JSON object has them.
use Rattle.std.specs.Prelude.{ℕ, nat_lt, List, [], ◌∷◌, ◌++◌, map, Option, Some, None, codes, if◌then◌else◌}
use Rattle.std.specs.List.{flat_map}
use Rattle.migration_types.specs.declared.records.LogName.{LogName}
use Rattle.migration_types.specs.declared.records.LogName.TheVariants.{Guest, Source, Link, Lane, Pager}
use Rattle.migration_types.specs.Receipts.{log_word}
use Rattle.migration_types.specs.Sessions.{Recorded, line_of, log_length}
use Rattle.session_story.specs.declared.explanations.Explanation.{Explanation}
use Rattle.session_story.specs.declared.explanations.Explanation.TheVariants as story
use Rattle.session_story.specs.declared.fault_stories.FaultStory.{FaultStory}
use Rattle.session_story.specs.declared.fault_stories.ApartStory.{ApartStory}
use Rattle.session_story.specs.declared.fault_stories.ShapeStory.{ShapeStory}
use Rattle.session_story.specs.declared.pages.Handover.{Handover}
use Rattle.session_story.specs.declared.pages.PageStory.{PageStory}
use Rattle.session_story.specs.declared.topic_stories.FullPageStory.{FullPageStory}
use Rattle.session_story.specs.declared.topic_stories.LineStory.{LineStory}
use Rattle.session_story.specs.declared.topic_stories.TopicStory.{TopicStory}
use Rattle.session_story.specs.declared.topic_stories.TopicStory.TheVariants as topic
use Rattle.session_story.specs.declared.knots.Waiting.{Waiting}
use Rattle.session_story.specs.Concerned.{resumed_by}
use Rattle.session_answers.specs.declared.records.Part.{Part}
use Rattle.session_answers.specs.declared.records.Role.{Role}
use Rattle.session_answers.specs.declared.records.Role.TheVariants as role
use Rattle.session_answers.specs.declared.records.ToldRecord.{ToldRecord}
use Rattle.session_answers.specs.JsonText.{number, word}

abbrev pub role_word : Role → List ℕ
role_word role.Faulty = codes "faulty"
role_word role.Changed = codes "changed"
role_word role.Halt = codes "halt"
role_word role.Sent = codes "sent"
role_word role.Delivered = codes "delivered"
role_word role.Taken = codes "taken"
role_word role.Placed = codes "placed"
role_word role.PlacedAgain = codes "placed-again"
role_word role.Look = codes "look"
role_word role.Touch = codes "touch"
role_word role.Resume = codes "resume"
role_word role.Waits = codes "waits"
role_word role.Named = codes "named"

-- a record with its role, as in {"role":"faulty","log":"guest","record":4,"line":13}
unfoldable pub told_record : ToldRecord → List ℕ
told_record r = codes "{\"role\":\"" ++ role_word r.role ++ codes "\"" ++ word (codes "log") (log_word r.log) ++ number (codes "record") r.place ++ number (codes "line") r.line ++ codes "}"

-- a record that a story may name: its role, its log, and its number there, if the story has one
abbrev pub part : Role → LogName → Option ℕ → Part
part role log n = record { 0 = role; 1 = log; 2 = n }

-- the record that has a fault of a page
abbrev pub faulty_part : FaultStory → List Part
faulty_part f = part role.Faulty f.fault.log (Some f.fault.place) ∷ []

-- how a page came to the target, and what became of it there
abbrev pub page_parts : PageStory → Handover → List Part
page_parts page handover =
    part role.Changed Guest page.changed ∷ part role.Halt Guest handover.halt ∷ part role.Sent Source page.sent
    ∷ part role.Delivered Link page.delivered ∷ part role.Delivered Lane page.by_lane ∷ part role.Taken Pager page.got
    ∷ part role.Placed Pager page.found.placement ∷ part role.PlacedAgain Pager page.found.again
    ∷ part role.Look Guest page.found.look ∷ part role.Touch Guest page.found.touch ∷ []

-- the fault of a page, and the page's story
abbrev pub fault_parts : FaultStory → List Part
fault_parts f = faulty_part f ++ page_parts f.page f.handover

-- the record that does not have the right shape, and the first sending of its page, or the resume of its guest
abbrev pub shape_parts : ShapeStory → List Part
shape_parts t = part role.Faulty t.fault.log (Some t.fault.place) ∷ part role.Sent Source t.sent ∷ part role.Resume Guest (resumed_by t) ∷ []

-- the records that wait for one another, each for the next
abbrev pub waiting_parts : List Waiting → List Part
waiting_parts waits = map (λ w. part role.Waits w.log (Some w.place)) waits

-- the first fault that misshapen records do not touch, and its page's story, if there is one
abbrev pub apart_parts : Option ApartStory → List Part
apart_parts None = []
apart_parts (Some t) = fault_parts t.story

-- the story of the report
abbrev pub report_parts : Explanation → List Part
report_parts (story.Shape t apart) = shape_parts t ++ apart_parts apart
report_parts (story.Knot knot) = waiting_parts knot.waits.items
report_parts (story.Faulty f more) = fault_parts f
report_parts (story.Clean counts) = []

-- those of a story, if there is one
abbrev pub parts_in : {A : Type 0} → (A → List Part) → Option A → List Part
parts_in parts None = []
parts_in parts (Some x) = parts x

-- the first fault of a page, if it has one, and the page's story
abbrev pub full_parts : FullPageStory → List Part
full_parts t = parts_in faulty_part t.fault ++ page_parts t.story t.handover

-- the record at a line, what its shape concerns if the report names it for that, and the story of its page
abbrev pub line_parts : LineStory → List Part
line_parts t = part role.Named t.log (Some t.place) ∷ parts_in shape_parts t.shape ++ parts_in full_parts t.page

-- the parts of the story on a topic
abbrev pub parts_of : TopicStory → List Part
parts_of (topic.Report e) = report_parts e
parts_of (topic.Page number t) = parts_in full_parts t
parts_of (topic.Line line t) = parts_in line_parts t

-- the record of a part, with its line number mapped, if the part has a number and the session has the record
abbrev pub told_at : (ℕ → ℕ) → Recorded → Role → LogName → Option ℕ → List ToldRecord
told_at tell s role log None = []
told_at tell s role log (Some n) = if nat_lt n (log_length s log) then record { role = role; log = log; place = n; line = tell (line_of s (log, n)) } ∷ [] else []

abbrev pub told : (ℕ → ℕ) → Recorded → Part → List ToldRecord
told tell s p = told_at tell s p.0 p.1 p.2

-- the records of the story on a topic
abbrev pub records_of : (ℕ → ℕ) → Recorded → TopicStory → List ToldRecord
records_of tell s t = flat_map (told tell s) (parts_of t)
