-- No line of a text has a line feed.
use Rattle.std.specs.Prelude.{ℕ, List, [], ◌∷◌, length, refl}
use Rattle.std.proofs.Common.{arith, subst, sym}
use Rattle.std.specs.List.{AllByRecursion}
use Rattle.std.specs.Fmt.{decimal}
use Rattle.text_lines.specs.Text.{IsLine}
use Rattle.text_lines.proofs.Plain.{plain_append, plain_decimal, plain_section, plain_codes}
use Rattle.migration_events.specs.declared.events.Direction.{Direction}
use Rattle.migration_events.specs.declared.events.Direction.TheVariants.{Down, Up, Lane}
use Rattle.migration_events.specs.declared.events.Fate.{Fate}
use Rattle.migration_events.specs.declared.events.Fate.TheVariants.{Deliver, Lose, Repeat, Back}
use Rattle.migration_events.specs.declared.events.Event.{Event}
use Rattle.migration_events.specs.declared.events.Event.TheVariants.{GuestStep, Halt, Push, Serve, SourceTick, LinkTurn, PagerPop, PagerPull, PagerFault, PagerFlush, PagerDeliver, PagerTick}
use Rattle.guest_script.specs.Events.{events_header, events_key, closing, fate_word, link_key, guest_key, event_line, EventFits, SpellsEvents}

plain_fate : (fate : Fate) → IsLine (fate_word fate)
plain_fate Deliver = plain_codes (fate_word Deliver) refl
plain_fate Lose = plain_codes (fate_word Lose) refl
plain_fate Repeat = plain_codes (fate_word Repeat) refl
plain_fate Back = plain_codes (fate_word Back) refl

plain_link : (direction : Direction) → IsLine (link_key direction)
plain_link Down = plain_codes (link_key Down) refl
plain_link Up = plain_codes (link_key Up) refl
plain_link Lane = plain_codes (link_key Lane) refl

plain_event : (e : Event) → EventFits e → IsLine (event_line e)
plain_event (GuestStep v) fits = plain_append guest_key (decimal v) (plain_codes guest_key refl) (plain_decimal v (omega (arith, fits)))
plain_event Halt fits = plain_codes (event_line Halt) refl
plain_event Push fits = plain_codes (event_line Push) refl
plain_event Serve fits = plain_codes (event_line Serve) refl
plain_event SourceTick fits = plain_codes (event_line SourceTick) refl
plain_event (LinkTurn direction fate) fits = plain_append (link_key direction) (fate_word fate) (plain_link direction) (plain_fate fate)
plain_event PagerPop fits = plain_codes (event_line PagerPop) refl
plain_event PagerPull fits = plain_codes (event_line PagerPull) refl
plain_event PagerFault fits = plain_codes (event_line PagerFault) refl
plain_event PagerFlush fits = plain_codes (event_line PagerFlush) refl
plain_event PagerDeliver fits = plain_codes (event_line PagerDeliver) refl
plain_event PagerTick fits = plain_codes (event_line PagerTick) refl

pub plain_events : (v : List Event) (lines : List (List ℕ)) → SpellsEvents v lines → AllByRecursion IsLine lines
plain_events v lines s =
    let few = s.0.few in
    let count = plain_append events_key (decimal (length v)) (plain_codes events_key refl) (plain_decimal (length v) (omega arith)) in
    let items = plain_section event_line EventFits v (closing ∷ []) plain_event s.0.each (plain_codes closing refl, tt) in
    subst (AllByRecursion IsLine) (sym s.1) (plain_codes events_header refl, (count, items))
