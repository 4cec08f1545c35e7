use Rattle.migration_events.specs.declared.faults.EventFault.TheVariants.{LogFull}
use Rattle.migration_model.specs.Books.{Before}
use Rattle.migration_model.specs.Events.{run}
use Rattle.session_core.proofs.Runs.{from_start, run_promised, started}
use Rattle.session_core.specs.Cores.{books_of, machine}
use Rattle.session_core.specs.Promised.{IsPromised}
use Rattle.session_core.specs.States.{home_of, scripted_of}
use Rattle.session_core.proofs.running.run.Goals as goal
use Rattle.std.proofs.Common.{Err, ap, subst, sym, ◌∙◌, ◌≡◌}

pub step_all-requires-clause-reached : goal.step_all-requires-clause-reached
step_all-requires-clause-reached c = started (scripted_of c.args.script.now) (Before (home_of c.in_ok-before.before)) c.start.ensures.fits c.in_ok-before.ensures.books

pub into_session-requires-clause-limits : goal.into_session-requires-clause-limits
into_session-requires-clause-limits c =
    (run_promised (scripted_of c.args.script.now) (Before (home_of c.in_ok-before.before)) c.start.ensures.fits c.in_ok-before.ensures.books c.args.events.now (books_of c.step_all.new.phase) c.in-Ok.ensures.ok).faultless.faultless.is_session

pub returns-in-Err-clause-full : goal.returns-in-Err-clause-full
returns-in-Err-clause-full c = λ full.
    let is : c.in-Err.fault ≡ LogFull = cc in
    ap (run c.args.events.now) (sym (from_start (scripted_of c.args.script.now) (Before (home_of c.in_ok-before.before)) c.in_ok-before.ensures.books)) ∙ c.in-Err.ensures.full (ap Err is)

pub returns-in_ok-into_session-in-Ok-clause-recorded : goal.returns-in_ok-into_session-in-Ok-clause-recorded
returns-in_ok-into_session-in-Ok-clause-recorded c =
    let s = scripted_of c.args.script.now in
    let home = Before (home_of c.in_ok-before.before) in
    let new = books_of c.step_all.new.phase in
    record {
      core = machine c.step_all.new.phase c.in-Ok.ensures.ok.order;
      runs = ap (run c.args.events.now) (sym (from_start s home c.in_ok-before.ensures.books)) ∙ c.in-Ok.ensures.ok.runs;
      is_session = c.in_ok-into_session-in-Ok.ensures;
      promised = subst (λ t. IsPromised t c.in-Ok.ensures.ok.order) (sym c.in_ok-into_session-in-Ok.ensures) (run_promised s home c.start.ensures.fits c.in_ok-before.ensures.books c.args.events.now new c.in-Ok.ensures.ok);
    }
