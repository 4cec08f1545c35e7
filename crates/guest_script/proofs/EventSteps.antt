-- A reader of events takes the lines that may come, and no others.
use Rattle.std.proofs.Common.{◌≡◌, ◌≢◌, ℕ, ◌+◌, ◌-◌, ◌<◌, ◌≤◌, ◌^◌, List, [], ◌∷◌, ◌++◌, length, map, replicate, refl, sym, ap, subst, ◌∙◌, append_assoc, length-append, arith}
use Rattle.std.specs.Prelude.{Result, Ok, Err, IfOk, IfErr, OnErr}
use Rattle.text_lines.specs.declared.FaultKind.{FaultKind}
use Rattle.text_lines.specs.declared.FaultKind.TheVariants.{Memory}
use Rattle.std.specs.List.{AllByRecursion}
use Rattle.std.specs.Fmt.{decimal}
use Rattle.std.proofs.lemmas.List.{append-nil, length-map, length-replicate}
use Rattle.text_lines.specs.Text.{Begins, IsUnambiguous}
use Rattle.text_lines.specs.Counted.{Part, IsWhole, counted}
use Rattle.text_lines.proofs.Cut.{unambiguous}
use Rattle.text_lines.proofs.Sections.{counted_agree, section_end, section_push}
use Rattle.session_grammar.proofs.Lists.{spelled_same}
use Rattle.guest_script.specs.inner.Plain.{plain_events}
use Rattle.migration_types.specs.Limits.{most_records}
use Rattle.migration_events.specs.declared.events.Event.{Event}
use Rattle.migration_events.specs.declared.events.Event.TheVariants.{Halt}
use Rattle.guest_script.specs.declared.event_steps.EventStage.{EventStage}
use Rattle.guest_script.specs.declared.event_steps.EventStage.TheVariants.{Header, Count, Events, Done}
use Rattle.guest_script.specs.Events.{events_header, events_key, closing, event_line, event_lines, EventFits, AreEvents, SpellsEvents}
use Rattle.guest_script.specs.inner.EventHeld.{events_held, EventsLeft, EventsRest, EventsFit, EventsLive, EventsStep}
use Rattle.guest_script.proofs.Exactly.{exact_step, exact_refuses, exact_begins, exact_left}
use Rattle.guest_script.proofs.Lists.{all_at, all_append}
use Rattle.guest_script.proofs.TextLists.{keyed_same, all_replicate, none_left}
use Rattle.guest_script.proofs.Tells.{event_tells}

pub live_at : (stage at : EventStage) (d : Part Event) → stage ≡ at → EventsLive stage d → EventsLive at d
live_at stage at d is live = subst (λ (s : EventStage). EventsLive s d) is live

-- ---- a line that is taken

step : (stage next : EventStage) (d new : Part Event) (line : List ℕ) → EventsLive stage d → EventsFit next new → events_held next new ≡ events_held stage d ++ line ∷ [] → ((v : List Event) (more : List (List ℕ)) → EventsRest stage d v (line ∷ more) → EventsRest next new v more) → ((v : List Event) (more : List (List ℕ)) → EventsRest next new v more → EventsRest stage d v (line ∷ more)) → EventsLive next new × (events_held next new ≡ events_held stage d ++ line ∷ [])
step stage next d new line live fits grown on back = (record { exact = exact_step SpellsEvents (EventsRest stage d) (events_held stage d) live.exact (EventsRest next new) (events_held next new) line grown on back; fits = fits }, grown)

pub count_taken : (d new : Part Event) (line : List ℕ) → EventsLive Count d → new.items ≡ [] → new.count ≤ most_records → line ≡ events_key ++ decimal new.count → EventsLive Events new × (events_held Events new ≡ events_held Count d ++ line ∷ [])
count_taken d new line live none few is = step Count Events d new line live
    (record { few = few; within = rw none (omega arith); each = rw none tt })
    (rw (none, is) refl)
    (λ v more r.
    let e = r.1 in
    let many = r.0.few in
    let head : events_key ++ decimal new.count ≡ events_key ++ decimal (length v) = sym is ∙ cc in
    let tail : more ≡ map event_line v ++ closing ∷ [] = cc in
    record { fits = r.0; count = sym (keyed_same events_key new.count (length v) (omega arith) (omega arith) head); back = v; whole = ap (λ (t : List Event). t ++ v) (sym none); lines = tail })
    (λ v more r.
    let same : r.back ≡ v = sym (r.whole ∙ ap (λ (t : List Event). t ++ r.back) none) in
    let head : line ≡ events_key ++ decimal (length v) = is ∙ ap (λ (n : ℕ). events_key ++ decimal n) (sym r.count) in
    let tail : more ≡ map event_line v ++ closing ∷ [] = r.lines ∙ ap (λ (t : List Event). map event_line t ++ closing ∷ []) same in
    (r.fits, cc))

-- the event that may come is the only one with this line
next_event : (d : Part Event) (line : List ℕ) (v : List Event) (more : List (List ℕ)) → EventsLeft d v (line ∷ more) → length d.items < d.count → (y : Event) × (back : List Event) × (v ≡ d.items ++ y ∷ back) × (line ≡ event_line y) × (more ≡ map event_line back ++ closing ∷ []) × EventFits y
next_event d line v more r less = go r.back r.whole r.lines
  where
    go : (back : List Event) → v ≡ d.items ++ back → line ∷ more ≡ map event_line back ++ closing ∷ [] → (y : Event) × (back : List Event) × (v ≡ d.items ++ y ∷ back) × (line ≡ event_line y) × (more ≡ map event_line back ++ closing ∷ []) × EventFits y
    go [] whole lines = let n = ap (λ (t : List Event). length t) whole in absurd (omega (arith, n, length-append d.items [], r.count, less))
    go (y ∷ back) whole lines = (y, back, whole, cc, cc, all_at EventFits d.items y back (subst (AllByRecursion EventFits) whole r.fits.each))

pub event_taken : (d new : Part Event) (line : List ℕ) (x : Event) → EventsLive Events d → length d.items < d.count → new ≡ record { count = d.count; items = d.items ++ x ∷ [] } → EventFits x → line ≡ event_line x → EventsLive Events new × (events_held Events new ≡ events_held Events d ++ line ∷ [])
event_taken d new line x live less is fits spelled = rw is (step Events Events d (record { count = d.count; items = d.items ++ x ∷ [] }) line live
    (record { few = live.fits.few; within = omega (arith, length-append d.items (x ∷ [])); each = all_append EventFits d.items (x ∷ []) live.fits.each (fits, tt) })
    (ap (λ (t : List (List ℕ)). events_header ∷ (events_key ++ decimal d.count) ∷ t) (sym (append-nil (map event_line (d.items ++ x ∷ []))) ∙ section_push event_line d.items x [] ∙ ap (λ (l : List ℕ). map event_line d.items ++ l ∷ []) (sym spelled)))
    (λ v more r.
    let n = next_event d line v more r less in
    let same = event_tells x n.0 fits n.5 (sym spelled ∙ n.3) in
    record { fits = r.fits; count = r.count; back = n.1; whole = n.2 ∙ ap (λ (y : Event). d.items ++ y ∷ n.1) (sym same) ∙ sym (append_assoc d.items (x ∷ []) n.1); lines = n.4 })
    (λ v more r. record { fits = r.fits; count = r.count; back = x ∷ r.back; whole = r.whole ∙ append_assoc d.items (x ∷ []) r.back; lines = let e = r.lines in cc }))

-- no event is left
no_more : (d : Part Event) (v : List Event) (lines : List (List ℕ)) → EventsLeft d v lines → IsWhole d → (v ≡ d.items) × (lines ≡ closing ∷ [])
no_more d v lines r all =
    let none = none_left v d.items r.back r.whole (r.count ∙ sym all) in
    (r.whole ∙ ap (λ (t : List Event). d.items ++ t) none ∙ append-nil d.items, r.lines ∙ ap (λ (t : List Event). map event_line t ++ closing ∷ []) none)

pub closing_taken : (d : Part Event) (line : List ℕ) → EventsLive Events d → IsWhole d → line ≡ closing → EventsLive Done d × (events_held Done d ≡ events_held Events d ++ line ∷ [])
closing_taken d line live all is = step Events Done d d line live (live.fits, all)
    (ap (λ (l : List ℕ). events_header ∷ (events_key ++ decimal d.count) ∷ (map event_line d.items ++ l ∷ [])) (sym is))
    (λ v more r. let n = no_more d v (line ∷ more) r all in let e = n.1 in let tail : more ≡ [] = cc in (r.fits, n.0, tail))
    (λ v more r. record { fits = r.0; count = ap (λ (t : List Event). length t) r.1 ∙ all; back = []; whole = r.1 ∙ sym (append-nil d.items); lines = let e = r.2 in cc })

-- ---- a line that is refused

pub event_refused : (d : Part Event) (line : List ℕ) → length d.items < d.count → ((x : Event) → EventFits x → line ≢ event_line x) → (v : List Event) (more : List (List ℕ)) → EventsRest Events d v (line ∷ more) → ⊥
event_refused d line less none v more r = let n = next_event d line v more r less in none n.0 n.5 n.3

-- ---- what comes of the lines so far

no_events : AreEvents []
no_events = record { few = omega arith; each = tt }

rest_of : (stage : EventStage) (d : Part Event) → EventsFit stage d → (v : List Event) × (more : List (List ℕ)) × EventsRest stage d v more
rest_of Header d fits = ([], event_lines [], (no_events, refl))
rest_of Count d fits = ([], counted events_key event_line [] (closing ∷ []), (no_events, refl))
rest_of Events d fits =
    let few = fits.few in
    let within = fits.within in
    let back : List Event = replicate (d.count - length d.items) Halt in
    let n : length back ≡ d.count - length d.items = length-replicate (d.count - length d.items) Halt in
    let all : length (d.items ++ back) ≡ d.count = omega (arith, length-append d.items back, n) in
    (d.items ++ back, map event_line back ++ closing ∷ [], record { fits = record { few = omega arith; each = all_append EventFits d.items back fits.each (all_replicate EventFits (d.count - length d.items) Halt tt) }; count = all; back = back; whole = refl; lines = refl })
rest_of Done d fits =
    let few = fits.0.few in
    let within = fits.0.within in
    (d.items, [], (record { few = omega arith; each = fits.0.each }, refl, refl))

pub live_begins : (stage : EventStage) (d : Part Event) → EventsLive stage d → Begins SpellsEvents (events_held stage d)
live_begins stage d live = let r = rest_of stage d live.fits in exact_begins SpellsEvents (EventsRest stage d) (events_held stage d) live.exact r.0 r.1 r.2

pub live_few : (stage : EventStage) (d : Part Event) → EventsLive stage d → length (events_held stage d) + 1 < 2 ^ 32
live_few Header d live = omega arith
live_few Count d live = omega arith
live_few Events d live = let few = live.fits.few in let within = live.fits.within in omega (arith, length-map d.items event_line)
live_few Done d live = let few = live.fits.0.few in let within = live.fits.0.within in omega (arith, length-append (map event_line d.items) (closing ∷ []), length-map d.items event_line)

rest_not_none : (stage : EventStage) (d : Part Event) → stage ≢ Done → (v : List Event) → EventsRest stage d v [] → ⊥
rest_not_none Header d other v r = let e = r.1 in absurd cc
rest_not_none Count d other v r = let e = r.1 in absurd cc
rest_not_none Events d other v r = let n = ap (λ (t : List (List ℕ)). length t) r.lines in absurd (omega (arith, n, length-append (map event_line r.back) (closing ∷ [])))
rest_not_none Done d other v r = absurd (other refl)

pub live_not_whole : (stage : EventStage) (d : Part Event) (held : List (List ℕ)) → events_held stage d ≡ held → EventsLive stage d → stage ≢ Done → (v : List Event) → SpellsEvents v held → ⊥
live_not_whole stage d held is live other v s = rest_not_none stage d other v (exact_left SpellsEvents (EventsRest stage d) (events_held stage d) live.exact v (subst (SpellsEvents v) (sym is) s))

pub live_refuses : (stage : EventStage) (d : Part Event) (held : List (List ℕ)) (line : List ℕ) → events_held stage d ≡ held → EventsLive stage d → ((v : List Event) (more : List (List ℕ)) → EventsRest stage d v (line ∷ more) → ⊥) → Begins SpellsEvents (held ++ line ∷ []) → ⊥
live_refuses stage d held line is live none b = exact_refuses SpellsEvents (EventsRest stage d) (events_held stage d) live.exact line none (subst (λ (t : List (List ℕ)). Begins SpellsEvents (t ++ line ∷ [])) (sym is) b)

-- ---- a line that was taken, as each text's reader tells it

pub taken : (stage : EventStage) (old new : Part Event) (line : List ℕ) (r : Result EventStage FaultKind) → EventsStep stage old line new r → IfOk r (λ next. EventsLive next new × (events_held next new ≡ events_held stage old ++ line ∷ []))
taken stage old new line (Ok next) s = s
taken stage old new line (Err kind) s = tt

pub refused : (stage : EventStage) (old new : Part Event) (line : List ℕ) (r : Result EventStage FaultKind) → EventsLive stage old → EventsStep stage old line new r → IfErr r (λ kind. kind ≢ Memory → Begins SpellsEvents (events_held stage old ++ line ∷ []) → ⊥)
refused stage old new line (Ok next) live s = tt
refused stage old new line (Err kind) live s = λ other. live_refuses stage old (events_held stage old) line refl live (s.1 other)

pub still_live : (stage : EventStage) (old new : Part Event) (line : List ℕ) (r : Result EventStage FaultKind) → EventsLive stage old → EventsStep stage old line new r → OnErr r (EventsLive stage new)
still_live stage old new line (Ok next) live s = tt
still_live stage old new line (Err kind) live s = subst (EventsLive stage) (sym s.0) live

pub still_held : (stage : EventStage) (old new : Part Event) (line : List ℕ) (r : Result EventStage FaultKind) → EventsStep stage old line new r → OnErr r (events_held stage new ≡ events_held stage old)
still_held stage old new line (Ok next) s = tt
still_held stage old new line (Err kind) s = ap (events_held stage) s.0

-- ---- no text begins another

lines_tell : (v w : List Event) (more : List (List ℕ)) → AreEvents v → AreEvents w → event_lines v ++ more ≡ event_lines w → (v ≡ w) × (more ≡ [])
lines_tell v w more p q e =
    let few_v = p.few in
    let few_w = q.few in
    let rest : (events_key ++ decimal (length v)) ∷ (map event_line v ++ (closing ∷ more)) ≡ counted events_key event_line w (closing ∷ []) = ap (λ (t : List (List ℕ)). (events_key ++ decimal (length v)) ∷ t) (sym (append_assoc (map event_line v) (closing ∷ []) more)) ∙ cc in
    let a = counted_agree events_key event_line (length v) w v (closing ∷ []) (closing ∷ more) (omega arith) (omega arith) rest in
    let end = section_end event_line w v (closing ∷ []) (closing ∷ more) a.items a.count in
    let tail = end.1 in
    (spelled_same event_line EventFits event_tells v w p.each q.each (sym end.0), cc)

pub events_unambiguous : IsUnambiguous SpellsEvents
events_unambiguous = unambiguous SpellsEvents plain_events
    (λ v w a more s t. lines_tell v w more s.0 t.0 (ap (λ (x : List (List ℕ)). x ++ more) (sym s.1) ∙ t.1))
    (λ v a b s t. s.1 ∙ sym t.1)

-- ---- writing
