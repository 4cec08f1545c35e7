use Rattle.std.proofs.Common.{◌≡◌, ℕ, List, Result, subst}
use Rattle.text_lines.specs.Answer.{IsRead}
use Rattle.guest_script.specs.declared.script.Scenario.{Scenario}
use Rattle.guest_script.specs.Scripts.{SpellsScript}
use Rattle.command_texts.specs.Answers.{IsHostFault, IsListStop}
use Rattle.host_commands.specs.Migrations.{IsMigrateAnswer, IsMigration, ScriptText, migration_status, migration_text}
use Rattle.host_commands.proofs.Writing.{held_in, stop_of_host, written_in}
use Rattle.host_commands.proofs.migrating.write_migration.Goals as goal

pub returns-in-Ok : goal.returns-in-Ok
returns-in-Ok g c = λ text name read. c.write_run.ensures text name (subst (λ (r : Result Scenario ℕ). IsRead SpellsScript text r) c.in-Ok.is read)

pub returns-in-Err : goal.returns-in-Err
returns-in-Err g c = λ text name read.
    written_in IsListStop (IsHostFault (λ (n : List ℕ). n ≡ name)) (stop_of_host (λ (n : List ℕ). n ≡ name)) _ (IsMigrateAnswer text)
    (held_in (IsMigration text) migration_text migration_status (ScriptText c.in-Err.line) (subst (λ (r : Result Scenario ℕ). IsRead SpellsScript text r) c.in-Err.is read) c.refused.result c.refused.ensures) _ _ c.write_held.result c.write_held.ensures
