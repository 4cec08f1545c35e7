use Rattle.std.proofs.Common.{ℕ, List, Result, subst, sym}
use Rattle.text_lines.specs.Answer.{IsRead}
use Rattle.text_lines.specs.Text.{IsSpelling}
use Rattle.migration_events.specs.declared.events.Event.{Event}
use Rattle.guest_script.specs.declared.script.Scenario.{Scenario}
use Rattle.guest_script.specs.Events.{SpellsEvents}
use Rattle.guest_script.specs.Scripts.{SpellsScript}
use Rattle.command_texts.specs.Answers.{IsListStop}
use Rattle.host_commands.specs.Steps.{AreSteps, EventsText, IsStepsAnswer, ScriptText, steps_status, steps_text}
use Rattle.host_commands.proofs.Writing.{held_in, written_in}
use Rattle.host_commands.proofs.stepping.write_steps.Goals as goal

pub returns-in-Err-default : goal.returns-in-Err-default
returns-in-Err-default g c = λ first second script events.
    written_in IsListStop IsListStop (λ fault h. h) _ (IsStepsAnswer first second)
    (held_in (AreSteps first second) steps_text steps_status (ScriptText c.in-Err-default.line) (subst (λ (r : Result Scenario ℕ). IsRead SpellsScript first r) c.in-Err-default.is-0 script) c.refused.result c.refused.ensures)
    _ _ c.write_held.result c.write_held.ensures

pub returns-in-Ok-Err : goal.returns-in-Ok-Err
returns-in-Ok-Err g c = λ first second script events.
    written_in IsListStop IsListStop (λ fault h. h) _ (IsStepsAnswer first second)
    (held_in (AreSteps first second) steps_text steps_status (EventsText c.in-Ok-Err.line) (_, subst (λ (r : Result Scenario ℕ). IsRead SpellsScript first r) c.in-Ok-Err.is-0 script, subst (λ (r : Result (List Event) ℕ). IsRead SpellsEvents second r) c.in-Ok-Err.is-1 events) c.refused-in-Ok-Err.result c.refused-in-Ok-Err.ensures)
    _ _ c.write_held-in-Ok-Err.result c.write_held-in-Ok-Err.ensures

pub returns-in-Ok-Ok : goal.returns-in-Ok-Ok
returns-in-Ok-Ok g c = λ first second script events.
    c.write_run.ensures first second (subst (λ (r : Result Scenario ℕ). IsRead SpellsScript first r) c.in-Ok-Ok.is-0 script)
    (subst (λ (es : List Event). IsSpelling SpellsEvents es second) (sym c.as_slice.ensures) (subst (λ (r : Result (List Event) ℕ). IsRead SpellsEvents second r) c.in-Ok-Ok.is-1 events))
