-- The records that have a row after the order. Of those that the order does not take, these are the next of each log,
-- the faulty record, the cause, the record that it is set against, and those that wait for one another.
use Rattle.std.specs.Prelude.{ℕ, ◌-◌, ◌==◌, ◌||◌, Bool, List, Option, Some, None, filter, flat_map, is_some, position, slice_get, if◌then◌else◌}
use Rattle.migration_types.specs.declared.records.LogName.{LogName}
use Rattle.migration_types.specs.Receipts.{Name, logs}
use Rattle.migration_types.specs.Sessions.{Recorded}
use Rattle.audit_model.specs.Names.{log_length, receipt}
use Rattle.audit_model.specs.Mergings.{run_names}
use Rattle.audit_model.specs.FoundOrder.{is_received}
use Rattle.merge_runs.specs.Taken.{cursors_of}
use Rattle.session_story.specs.declared.explanations.Explanation.TheVariants as explained
use Rattle.session_story.specs.declared.topic_stories.TopicStory.{TopicStory}
use Rattle.session_story.specs.declared.topic_stories.TopicStory.TheVariants as told
use Rattle.session_story.specs.declared.knots.Knot.{Knot}
use Rattle.session_story.specs.declared.knots.Waiting.{Waiting}
use Rattle.session_story.specs.Waits.{next_in}
use Rattle.order_picture.specs.declared.behind.Obstacle.{Obstacle}
use Rattle.order_picture.specs.declared.behind.Obstacle.TheVariants.{Waits, NotSent, Unhindered}
use Rattle.order_picture.specs.declared.behind.Tie.{Tie}
use Rattle.order_picture.specs.declared.picture.Picture.{Picture}
use Rattle.order_picture.specs.declared.boxes.BoxKind.{BoxKind}
use Rattle.order_picture.specs.declared.boxes.BoxKind.TheVariants.{Faulty, OwnCause, Cause, Against, Tied, Stuck}
use Rattle.order_picture.specs.Marks.{is_one}

-- the place of a record among those that wait for one another
abbrev pub place_in : Knot → Name → Option ℕ
place_in k name = position (λ w. is_one (Some (w.log, w.place)) name) k.waits.items

abbrev pub tie : Option Waiting → Option Waiting → Option Tie
tie None next = None
tie (Some waiting) None = None
tie (Some waiting) (Some next) = Some (record { waiting = waiting; next = next })

abbrev pub tie_at : Knot → Option ℕ → Option Tie
tie_at k None = None
tie_at k (Some n) = tie (slice_get k.waits.items n) (next_in k n)

-- a waiting record with the waiting record that it waits for, if it is one of those that wait for one another
abbrev pub tie_of : TopicStory → Name → Option Tie
tie_of (told.Report (explained.Knot knot)) name = tie_at knot (place_in knot name)
tie_of t name = None

-- whether a record has a row even if the order does not reach it
abbrev pub stands_out : Picture → Name → Bool
stands_out p name = is_one p.focus.fault name || (is_one p.focus.cause name || (is_one p.focus.against name || is_some (tie_of p.told name)))

-- whether a record that the order does not take has a row
abbrev pub is_behind : Picture → Name → Bool
is_behind p name = name.1 == cursors_of p.taken name.0 || stands_out p name

-- the records of a log that have a row after the order
abbrev pub log_behind : Recorded → Picture → LogName → List Name
log_behind s p log = filter (is_behind p) (run_names log (cursors_of p.taken log) (log_length s log - cursors_of p.taken log))

-- the records that have a row after the order
abbrev pub names_behind : Recorded → Picture → List Name
names_behind s p = flat_map (log_behind s p) logs

-- what the box of the faulty record says about it: whether it is also the cause
abbrev pub fault_kind : Picture → Name → BoxKind
fault_kind p name = if is_one p.focus.cause name then OwnCause else Faulty

-- what the box of a record after the order says about it
abbrev pub kind_behind : Picture → Name → BoxKind
kind_behind p name =
    if is_one p.focus.fault name then fault_kind p name
    else if is_some (tie_of p.told name) then Tied
    else if is_one p.focus.cause name then Cause
    else if is_one p.focus.against name then Against
    else Stuck

abbrev pub obstacle_by : Recorded → Picture → Name → Option Tie → Obstacle
obstacle_by s p name (Some t) = Waits
obstacle_by s p name None = if is_received (cursors_of p.taken) (receipt s name) then Unhindered else NotSent

-- why the order does not take a record: it waits for another waiting record, or the record that it receives was not
-- taken, or nothing prevents it
abbrev pub obstacle_of : Recorded → Picture → Name → Obstacle
obstacle_of s p name = obstacle_by s p name (tie_of p.told name)
