use Rattle.migration_model.proofs.Growths.{GrowsByTwo, event_grows_by_two}
use Rattle.migration_model.proofs.Needs.{reached_orderly}
use Rattle.migration_model.specs.Books.{Books, new_names, session_of}
use Rattle.session_core.specs.Cores.{books_of, machine}
use Rattle.session_core.proofs.NameRuns.{all_names, each_grows, each_within}
use Rattle.session_core.proofs.Steps.{stepped}
use Rattle.session_core.specs.Names.{length_in, names_between}
use Rattle.book_events.specs.Logs.{lengths_of, logs_in}
use Rattle.migration_types.specs.Receipts.{logs}
use Rattle.session_core.proofs.stepping.step_books.Goals as goal
use Rattle.std.proofs.Common.{Some, ap, subst, sym, ◌++◌, ◌∙◌, ◌≡◌}

pub event-requires-clause-orderly : goal.event-requires-clause-orderly
event-requires-clause-orderly c = reached_orderly (machine c.args.phase.now c.args.order.now.items) c.requires.reached

grows : (c : goal.After-lengths) → GrowsByTwo (session_of (books_of c.args.phase.now)) (session_of (books_of c.event.new.self))
grows c =
    let old = books_of c.args.phase.now in
    subst (λ (new : Books). GrowsByTwo (session_of old) (session_of new)) (sym c.in_ok-event.ensures.ok) (event_grows_by_two c.args.event old)

pub push_names-requires-clause-grows : goal.push_names-requires-clause-grows
push_names-requires-clause-grows c log = rw (c.lengths-old.ensures, c.lengths.ensures) (each_grows (session_of (books_of c.args.phase.now)) (session_of (books_of c.event.new.self)) (grows c) log)

pub push_names-requires-clause-few : goal.push_names-requires-clause-few
push_names-requires-clause-few c log = rw c.lengths.ensures (each_within (session_of (books_of c.event.new.self)) c.keeps_limits.ensures log)

grown : (c : goal.After-push_names) → c.push_names.new.order.items ≡ c.args.order.now.items ++ new_names (session_of (books_of c.args.phase.now)) (session_of (books_of c.event.new.self))
grown c =
    let s = session_of (books_of c.args.phase.now) in
    let t = session_of (books_of c.event.new.self) in
    let order = c.args.order.now.items in
    c.push_names.ensures
    ∙ ap (λ items. items ++ names_between (length_in c.lengths-old.result) (length_in c.lengths.result) logs) c.reserve.ensures.items
    ∙ ap (λ old. order ++ names_between (length_in old) (length_in c.lengths.result) logs) c.lengths-old.ensures
    ∙ ap (λ new. order ++ names_between (length_in (lengths_of (logs_in s))) (length_in new) logs) c.lengths.ensures
    ∙ ap (λ names. order ++ names) (all_names s t)

pub returns-clause-ok : goal.returns-clause-ok
returns-clause-ok c =
    let new = c.event.new.self in
    stepped c.args.event (books_of c.args.phase.now) (books_of new) c.args.order.now.items c.in_ok-event.ensures.ok c.keeps_limits.ensures
    ∙ ap (λ order. Some (machine new order)) (sym (grown c))
