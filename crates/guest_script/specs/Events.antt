-- The text of a list of events. Its lines, each ended by a line feed:
--     postcopy-events 1
--     events N            0 to 1,048,576, and then a line for each event
--     end
-- The lines of the events, with FATE one of deliver, lose, repeat and back, and VCPU a number from 0 to 63:
--     guest VCPU     halt     push     serve     source-tick     link down FATE     link up FATE     link lane FATE
--     pop     pop-lane     fault     flush     deliver     pager-tick
-- Numbers are in decimal, with no leading zero.
use Rattle.std.specs.Prelude.{◌≡◌, ℕ, ◌<◌, ◌≤◌, List, [], ◌∷◌, ◌++◌, length, codes}
use Rattle.std.specs.List.{AllByRecursion}
use Rattle.std.specs.Fmt.{decimal}
pub use Rattle.text_lines.specs.Text.{closing}
use Rattle.text_lines.specs.Counted.{counted}
use Rattle.migration_types.specs.Limits.{vcpus, most_records}
use Rattle.migration_events.specs.declared.events.Direction.{Direction}
use Rattle.migration_events.specs.declared.events.Direction.TheVariants.{Down, Up, Lane}
use Rattle.migration_events.specs.declared.events.Fate.{Fate}
use Rattle.migration_events.specs.declared.events.Fate.TheVariants.{Deliver, Lose, Repeat, Back}
use Rattle.migration_events.specs.declared.events.Event.{Event}
use Rattle.migration_events.specs.declared.events.Event.TheVariants.{GuestStep, Halt, Push, Serve, SourceTick, LinkTurn, PagerPop, PagerPull, PagerFault, PagerFlush, PagerDeliver, PagerTick}

abbrev pub fate_word : Fate → List ℕ
fate_word Deliver = codes "deliver"
fate_word Lose = codes "lose"
fate_word Repeat = codes "repeat"
fate_word Back = codes "back"

-- the beginning of the line of a turn of the link
abbrev pub link_key : Direction → List ℕ
link_key Down = codes "link down "
link_key Up = codes "link up "
link_key Lane = codes "link lane "

abbrev pub guest_key : List ℕ
guest_key = codes "guest "

abbrev pub event_line : Event → List ℕ
event_line (GuestStep vcpu) = guest_key ++ decimal vcpu
event_line Halt = codes "halt"
event_line Push = codes "push"
event_line Serve = codes "serve"
event_line SourceTick = codes "source-tick"
event_line (LinkTurn direction fate) = link_key direction ++ fate_word fate
event_line PagerPop = codes "pop"
event_line PagerPull = codes "pop-lane"
event_line PagerFault = codes "fault"
event_line PagerFlush = codes "flush"
event_line PagerDeliver = codes "deliver"
event_line PagerTick = codes "pager-tick"

-- the event's virtual processor has a number below 64
abbrev pub EventFits : Event → Type 0
EventFits (GuestStep vcpu) = vcpu < vcpus
EventFits _ = Unit {0}

-- events within all limits
pub record AreEvents (events : List Event) : Type 0 where
  pub few : length events ≤ most_records
  pub each : AllByRecursion EventFits events

abbrev pub events_header : List ℕ
events_header = codes "postcopy-events 1"

abbrev pub events_key : List ℕ
events_key = codes "events "

abbrev pub event_lines : List Event → List (List ℕ)
event_lines events = events_header ∷ counted events_key event_line events (closing ∷ [])

-- these lines are the text of these events, which are within all limits
abbrev pub SpellsEvents : List Event → List (List ℕ) → Type 0
SpellsEvents events lines = AreEvents events × (lines ≡ event_lines events)
