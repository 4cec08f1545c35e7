-- Kinds of events.
use Rattle.migration_events.specs.declared.events.Event.{Event}
use Rattle.migration_events.specs.declared.events.Event.TheVariants.{GuestStep, LinkTurn}

-- an event whose line is one word
abbrev pub IsAlone : Event → Type 0
IsAlone (GuestStep vcpu) = ⊥
IsAlone (LinkTurn direction fate) = ⊥
IsAlone _ = Unit {0}
