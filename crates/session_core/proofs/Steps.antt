-- A step, from what the event makes of the books.
use Rattle.migration_events.specs.declared.events.Event.{Event}
use Rattle.migration_model.specs.Events.{books_event, has_room, if_room, recorded, step}
use Rattle.migration_model.specs.Books.{Books, Recording, new_names, session_of}
use Rattle.migration_types.specs.Receipts.{Name}
use Rattle.migration_events.specs.declared.faults.EventFault.{EventFault}
use Rattle.migration_model.proofs.Reached.{step_reached}
use Rattle.migration_model.specs.Promise.{IsReached}
use Rattle.std.proofs.Common.{Err, List, None, Ok, OnErr, OnOk, Result, Some, ap, cond, false, subst, sym, true, ◌++◌, ◌∙◌, ◌≡◌}

-- there was room
pub stepped : (e : Event) (old new : Books) (order : List Name) → new ≡ books_event e old → has_room (session_of new) ≡ true →
    step e (record { books = old; order = order }) ≡ Some (record { books = new; order = order ++ new_names (session_of old) (session_of new) })
stepped e old new order is room =
    ap (λ b. if_room (recorded old order b)) (sym is) ∙ ap (λ t. cond t (Some (recorded old order new)) None) room

-- there was none
pub refused : (e : Event) (old : Books) (order : List Name) → has_room (session_of (books_event e old)) ≡ false → step e (record { books = old; order = order }) ≡ None
refused e old order full = ap (λ t. cond t (Some (recorded old order (books_event e old))) None) full

-- where an event is taken the core after it is reached, and where it is refused the core is as it was
pub stays_reached : (e : Event) (old new : Recording) (r : Result (Unit {0}) EventFault) → IsReached old → OnOk r (step e old ≡ Some new) → OnErr r (new ≡ old) → IsReached new
stays_reached e old new (Ok x) reached ok err = step_reached e old new reached ok
stays_reached e old new (Err fault) reached ok err = subst IsReached (sym err) reached
