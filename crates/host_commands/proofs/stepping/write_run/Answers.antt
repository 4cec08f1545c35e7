use Rattle.std.proofs.Common.{rules, ◌∙◌, [], ◌++◌, append-nil}
use Rattle.std.proofs.KnownBytes.{Keeps-refl}
use Rattle.text_lines.specs.Text.{ended}
use Rattle.session_log.specs.Grammar.{session_lines}
use Rattle.command_texts.specs.Answers.{IsListStop}
use Rattle.host_commands.specs.Steps.{AreSteps, IsStepsAnswer, LogFull, Records, steps_status, steps_text}
use Rattle.host_commands.specs.Written.{Has}
use Rattle.host_commands.proofs.Writing.{held_in, right_in, written_in}
use Rattle.host_commands.proofs.stepping.write_run.Goals as goal

pub returns-in-Ok : goal.returns-in-Ok
returns-in-Ok g c = λ first second script events.
    let s = c.in-Ok.session in
    written_in IsListStop IsListStop (λ fault h. h) (Has (ended (session_lines s) ++ []) 0) (IsStepsAnswer first second)
    (λ text status h. right_in (AreSteps first second) steps_text steps_status (Records s) (c.args.script.now, c.args.events.now, script, events, c.in-Ok.ensures.recorded) text status (h.0 ∙ append-nil (ended (session_lines s)), h.1))
    _ _ c.write_recorded-done.result c.write_recorded-done.ensures

pub returns-in-Err-LogFull : goal.returns-in-Err-LogFull
returns-in-Err-LogFull g c = λ first second script events.
    written_in IsListStop IsListStop (λ fault h. h) _ (IsStepsAnswer first second)
    (held_in (AreSteps first second) steps_text steps_status LogFull (c.args.script.now, c.args.events.now, script, events, c.in-Err-LogFull.ensures.full (search rules)) c.remark.result c.remark.ensures)
    _ _ c.write_held.result c.write_held.ensures

pub returns-in-Err-Memory : goal.returns-in-Err-Memory
returns-in-Err-Memory g c = λ first second script events. (tt, Keeps-refl _)
