use Rattle.std.proofs.Common.{◌∙◌, ℕ, List, ◌++◌, ap}
use Rattle.std.proofs.KnownBytes.{Keeps-refl}
use Rattle.text_lines.specs.Text.{ended}
use Rattle.session_log.specs.Grammar.{session_lines}
use Rattle.command_texts.specs.Answers.{IsListStop}
use Rattle.host_commands.specs.Migrations.{certified_text}
use Rattle.host_commands.specs.Written.{Has}
use Rattle.host_commands.proofs.Writing.{written_in}
use Rattle.host_commands.proofs.migrating.write_certified.Goals as goal

pub returns-in-Ok : goal.returns-in-Ok
returns-in-Ok g c =
    let m = c.args.migrated.now in
    let text = ended (session_lines m.session) in
    let spelled = c.as_slice.ensures.value ∙ (c.in-Ok.ensures.2 ∙ ap ended c.in-Ok.ensures.1.1) in
    written_in IsListStop IsListStop (λ fault h. h) (Has (text ++ c.as_slice.result.now) 0) (Has (certified_text m.session m.cert) 0)
    (λ t status h. (h.0 ∙ ap (λ (l : List ℕ). text ++ l) spelled, h.1)) _ _ c.write_recorded.result c.write_recorded.ensures

pub returns-in-Err : goal.returns-in-Err
returns-in-Err g c = (tt, Keeps-refl _)
