-- The lines that a reader of events holds, and those that may still come.
use Rattle.std.specs.Prelude.{◌≡◌, ◌≢◌, ℕ, ◌≤◌, List, [], ◌∷◌, ◌++◌, length, map, Result, Ok, Err}
use Rattle.std.specs.List.{AllByRecursion}
use Rattle.std.specs.Fmt.{decimal}
use Rattle.text_lines.specs.declared.FaultKind.{FaultKind}
use Rattle.text_lines.specs.declared.FaultKind.TheVariants.{Memory}
use Rattle.text_lines.specs.Counted.{Part, IsWhole, counted}
use Rattle.migration_types.specs.Limits.{most_records}
use Rattle.migration_events.specs.declared.events.Event.{Event}
use Rattle.guest_script.specs.declared.event_steps.EventStage.{EventStage}
use Rattle.guest_script.specs.declared.event_steps.EventStage.TheVariants.{Header, Count, Events, Done}
use Rattle.guest_script.specs.Events.{events_header, events_key, closing, event_line, EventFits, AreEvents, SpellsEvents}
use Rattle.guest_script.specs.inner.Exact.{Exact}

-- the lines so far
abbrev pub events_held : EventStage → Part Event → List (List ℕ)
events_held Header d = []
events_held Count d = events_header ∷ []
events_held Events d = events_header ∷ (events_key ++ decimal d.count) ∷ map event_line d.items
events_held Done d = events_header ∷ (events_key ++ decimal d.count) ∷ (map event_line d.items ++ closing ∷ [])

-- the events so far begin these events, and these lines spell the rest
pub record EventsLeft (d : Part Event) (v : List Event) (more : List (List ℕ)) : Type 0 where
  pub fits : AreEvents v
  pub count : length v ≡ d.count
  pub back : List Event
  pub whole : v ≡ d.items ++ back
  pub lines : more ≡ map event_line back ++ closing ∷ []

-- what may still come
abbrev pub EventsRest : EventStage → Part Event → List Event → List (List ℕ) → Type 0
EventsRest Header d v more = SpellsEvents v more
EventsRest Count d v more = AreEvents v × (more ≡ counted events_key event_line v (closing ∷ []))
EventsRest Events d v more = EventsLeft d v more
EventsRest Done d v more = AreEvents v × (v ≡ d.items) × (more ≡ [])

pub record PartFits (d : Part Event) : Type 0 where
  pub few : d.count ≤ most_records
  pub within : length d.items ≤ d.count
  pub each : AllByRecursion EventFits d.items

abbrev pub EventsFit : EventStage → Part Event → Type 0
EventsFit Header d = Unit {0}
EventsFit Count d = Unit {0}
EventsFit Events d = PartFits d
EventsFit Done d = PartFits d × IsWhole d

pub record EventsLive (stage : EventStage) (d : Part Event) : Type 0 where
  pub exact : Exact SpellsEvents (EventsRest stage d) (events_held stage d)
  pub fits : EventsFit stage d

-- The line is taken, and a stage follows. Or nothing changes, and, unless memory runs out, no events go on with the
-- line.
abbrev pub EventsStep : EventStage → Part Event → List ℕ → Part Event → Result EventStage FaultKind → Type 0
EventsStep stage old line new (Ok next) = EventsLive next new × (events_held next new ≡ events_held stage old ++ line ∷ [])
EventsStep stage old line new (Err kind) = (new ≡ old) × (kind ≢ Memory → (v : List Event) (more : List (List ℕ)) → EventsRest stage old v (line ∷ more) → ⊥)
