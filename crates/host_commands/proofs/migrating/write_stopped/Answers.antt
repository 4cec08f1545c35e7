use Rattle.std.proofs.Common.{◌≡◌, ℕ, List, subst}
use Rattle.std.proofs.KnownBytes.{Keeps-refl}
use Rattle.migration_types.specs.Sessions.{recorded}
use Rattle.audit_report.proofs.Showing.{fits_text}
use Rattle.command_texts.specs.Answers.{IsHostFault, IsListStop}
use Rattle.host_checks.specs.Outcomes.{IsRunFault}
use Rattle.host_commands.specs.Migrations.{AuditRefused, IsMigrateAnswer, IsMigration, LogFull, TranscriptDiffers, migration_status, migration_text}
use Rattle.host_commands.proofs.Writing.{held_in, stop_of_host, written_in}
use Rattle.host_commands.proofs.migrating.write_stopped.Goals as goal

pub returns-in-LogFull : goal.returns-in-LogFull
returns-in-LogFull g c = λ s text name fault spells.
    written_in IsListStop (IsHostFault (λ (n : List ℕ). n ≡ name)) (stop_of_host (λ (n : List ℕ). n ≡ name)) _ (IsMigrateAnswer text) (held_in (IsMigration text) migration_text migration_status LogFull (s, spells) c.remark.result c.remark.ensures) _ _ c.write_held.result c.write_held.ensures

pub returns-in-Memory : goal.returns-in-Memory
returns-in-Memory g c = λ s text name fault spells. (tt, Keeps-refl _)

pub returns-in-Threads : goal.returns-in-Threads
returns-in-Threads g c = λ s text name fault spells. (tt, Keeps-refl _)

pub returns-in-AuditRefused : goal.returns-in-AuditRefused
returns-in-AuditRefused g c = λ s text name fault spells.
    let refused = subst (λ f. IsRunFault s f) c.in-AuditRefused.is fault in
    written_in IsListStop (IsHostFault (λ (n : List ℕ). n ≡ name)) (stop_of_host (λ (n : List ℕ). n ≡ name)) _ (IsMigrateAnswer text) (held_in (IsMigration text) migration_text migration_status (AuditRefused c.in-AuditRefused.report) (s, spells, refused.0, refused.1, refused.2) c.reported.result c.reported.ensures) _ _ c.write_held-in-AuditRefused.result c.write_held-in-AuditRefused.ensures

pub returns-in-TranscriptDiffers : goal.returns-in-TranscriptDiffers
returns-in-TranscriptDiffers g c = λ s text name fault spells.
    written_in IsListStop (IsHostFault (λ (n : List ℕ). n ≡ name)) (stop_of_host (λ (n : List ℕ). n ≡ name)) _ (IsMigrateAnswer text) (held_in (IsMigration text) migration_text migration_status TranscriptDiffers (s, spells) c.remark-in-TranscriptDiffers.result c.remark-in-TranscriptDiffers.ensures) _ _ c.write_held-in-TranscriptDiffers.result c.write_held-in-TranscriptDiffers.ensures

pub returns-in-Link : goal.returns-in-Link
returns-in-Link g c = λ s text name fault spells. (tt, Keeps-refl _)

pub reported-requires : goal.reported-requires
reported-requires g c =
    let s = c.requires.0 in
    let refused = subst (λ f. IsRunFault s f) c.in-AuditRefused.is c.requires.1 in
    fits_text (recorded s.version s.geometry s.init refused.0) c.in-AuditRefused.report refused.1
