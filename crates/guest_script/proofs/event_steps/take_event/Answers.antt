use Rattle.std.proofs.Common.{refl}
use Rattle.std.proofs.lemmas.Result.{err_from_is_err_and}
use Rattle.guest_script.proofs.EventSteps.{closing_taken, event_taken, event_refused}
use Rattle.guest_script.proofs.event_steps.take_event.Goals as goal

pub returns-then-is_whole : goal.returns-then-is_whole
returns-then-is_whole c = closing_taken c.args.events.now c.args.line.now c.requires c.if-is_whole.ensures (c.if-not-is_line.ensures.0 refl)

pub returns-in_err-line : goal.returns-in_err-line
returns-in_err-line c = let p = err_from_is_err_and c.from_residual.result c.from_residual.ensures.1 in rw (p.1, p.2) (
  c.in_err-line.ensures.err,
  λ other. event_refused c.args.events.now c.args.line.now c.if-is_whole.ensures (λ x fits. c.in_err-line.ensures.refused other x fits tt),
)

pub returns : goal.returns
returns c =
    let t = c.in_ok-line.ensures.ok in
    event_taken c.args.events.now c.line.new.self c.args.line.now t.item c.requires c.if-is_whole.ensures t.grown t.fits t.spelled
