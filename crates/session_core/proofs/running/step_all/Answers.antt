use Rattle.migration_model.proofs.Needs.{reached_orderly}
use Rattle.migration_model.specs.Books.{new_names, session_of}
use Rattle.session_core.proofs.Runs.{run_next, run_reached, run_refused}
use Rattle.session_core.proofs.Steps.{refused, stepped}
use Rattle.session_core.specs.Cores.{books_of, machine, RunsTo}
use Rattle.session_core.proofs.running.step_all.Goals as goal
use Rattle.std.proofs.Common.{[], arith, refl, subst, take, ◌++◌}
use Rattle.std.proofs.lemmas.List.{take_all}
use Rattle.std.proofs.lemmas.Result.{err_from_is_err_and}

pub loop-event-init : goal.loop-event-init
loop-event-init c = (c.requires.held, record { order = []; runs = refl })

pub event-requires-clause-orderly : goal.event-requires-clause-orderly
event-requires-clause-orderly c =
    let so_far = c.loop-event.invariant.1 in
    let core = machine c.loop-event.phase so_far.order in
    reached_orderly core (run_reached (take c.loop-event.event-index c.args.events.now) (machine c.args.phase.now []) core c.requires.reached so_far.runs)

pub returns-in_err-event-clause-full : goal.returns-in_err-event-clause-full
returns-in_err-event-clause-full c =
    let so_far = c.loop-event.invariant.1 in
    let p = err_from_is_err_and c.from_residual.result c.from_residual.ensures.1 in
    rw (p.1, p.2) (λ full. run_refused c.args.events.now c.loop-event.event-index _ (machine c.args.phase.now []) (machine c.loop-event.phase so_far.order) c.loop-event-test.true so_far.runs
    (refused _ (books_of c.loop-event.phase) so_far.order (c.in_err-event.ensures.full full)))

pub loop-event-preserved : goal.loop-event-preserved
loop-event-preserved c =
    let so_far = c.loop-event.invariant.1 in
    let old = c.loop-event.phase in
    let new = c.event.new.self in
    let order = so_far.order ++ new_names (session_of (books_of old)) (session_of (books_of new)) in
    let taken = stepped _ (books_of old) (books_of new) so_far.order c.in_ok-event.ensures.ok c.keeps_limits.ensures in
    (c.event.ensures.held, record { order = order; runs = run_next c.args.events.now c.loop-event.event-index _ (machine c.args.phase.now []) (machine old so_far.order) (machine new order) c.loop-event-test.true so_far.runs taken })

pub returns-clause-ok : goal.returns-clause-ok
returns-clause-ok c =
    let short = c.loop-event-test.false in
    subst (λ events. RunsTo events (machine c.args.phase.now []) (books_of c.loop-event.phase)) (take_all c.loop-event.event-index c.args.events.now (omega arith)) c.loop-event.invariant.1
