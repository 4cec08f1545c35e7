use Rattle.std.proofs.Common.{◌≡◌, ℕ, List}
use Rattle.command_texts.specs.Answers.{IsHostFault, IsListStop}
use Rattle.host_commands.specs.Migrations.{IsMigrateAnswer, IsMigration, Records, certified_text, migration_status, migration_text}
use Rattle.host_commands.specs.Written.{Has}
use Rattle.host_commands.proofs.Writing.{right_in, stop_of_host, written_in}
use Rattle.host_commands.proofs.migrating.write_run.Goals as goal

pub returns-in-Ok : goal.returns-in-Ok
returns-in-Ok g c = λ text name script.
    let m = c.in-Ok.migrated in
    written_in IsListStop (IsHostFault (λ (n : List ℕ). n ≡ name)) (stop_of_host (λ (n : List ℕ). n ≡ name)) (Has (certified_text m.session m.cert) 0) (IsMigrateAnswer text)
    (right_in (IsMigration text) migration_text migration_status (Records m.session m.cert) (c.args.script.now, script, c.in-Ok.ensures.migrated, c.keeps_limits.ensures, c.keeps_limits-in-Ok.ensures)) _ _ c.write_certified.result c.write_certified.ensures

pub returns-in-Err : goal.returns-in-Err
returns-in-Err g c = λ text name script. c.write_stopped.ensures c.args.script.now text name c.in-Err.ensures.refused script
