use Rattle.std.proofs.Common.{◌≡◌, ℕ, List, Option, inl, subst}
use Rattle.std.proofs.KnownBytes.{Keeps-refl}
use Rattle.std.proofs.lemmas.Result.{err_from_is_err_and}
use Rattle.command_texts.specs.declared.why.Telling.TheVariants.{Short}
use Rattle.command_texts.specs.Answers.{IsHostFault}
use Rattle.command_texts.specs.Reasons.{Place, TellsWhy}
use Rattle.command_texts.proofs.Beside.{why_gains}
use Rattle.command_texts.proofs.Endings.{host_fault, not_read}
use Rattle.text_access.proofs.Fronts.{same_gains}
use Rattle.host_commands.specs.Migrations.{IsMigrateAnswer}
use Rattle.host_commands.proofs.Statuses.{migrate_few}
use Rattle.host_commands.proofs.Writing.{fails, written_gains}
use Rattle.host_commands.proofs.migrating.perform_migrate.Goals as goal

pub returns-in_err-script-clause-told : goal.returns-in_err-script-clause-told
returns-in_err-script-clause-told g c =
    let p = err_from_is_err_and c.from_residual.result c.from_residual.ensures.1 in
    let h = c.in_err-script.ensures.fault in
    let IsName = (λ (n : List ℕ). n ≡ c.args.name.now) in
    rw (p.1, p.2) (not_read _ _ _ IsName _ _ (host_fault IsName _ h) h)

pub returns-in_err-script-clause-gains : goal.returns-in_err-script-clause-gains
returns-in_err-script-clause-gains g c = (same_gains _, same_gains _)

pub returns-in_err-status-clause-told : goal.returns-in_err-status-clause-told
returns-in_err-status-clause-told g c =
    let p = err_from_is_err_and c.from_residual-in_err-status.result c.from_residual-in_err-status.ensures.1 in
    let n = c.in_ok-script.ensures.named in
    let IsName = (λ (n : List ℕ). n ≡ c.args.name.now) in
    rw (p.1, p.2) (fails (IsHostFault IsName) (IsHostFault IsName) (λ fault h. h) _ IsMigrateAnswer n.0 n.1 _ _ _ _ (c.in_err-status.ensures n.0 c.args.name.now n.2))

pub returns-in_err-status-clause-gains : goal.returns-in_err-status-clause-gains
returns-in_err-status-clause-gains g c =
    let n = c.in_ok-script.ensures.named in
    (written_gains _ (IsMigrateAnswer n.0) _ _ c.write_migration.result (c.write_migration.ensures n.0 c.args.name.now n.2), same_gains _)

pub returns-clause-few : goal.returns-clause-few
returns-clause-few g c =
    let n = c.in_ok-script.ensures.named in
    let h = c.in_ok-status.ensures n.0 c.args.name.now n.2 in
    migrate_few n.0 h.text c.in_ok-status.status h.is_answer

pub returns-clause-told : goal.returns-clause-told
returns-clause-told g c =
    let n = c.in_ok-script.ensures.named in
    let new = g.E.Write.contents c.tell_why.new.errors in
    record {
      texts = n.0;
      are_texts = n.1;
      told = c.in_ok-status.ensures n.0 c.args.name.now n.2;
      beside = record {
        line = n.3.0;
        is_line = n.3.1;
        between = new;
        told = subst (λ (p : Option Place). TellsWhy Short p (g.E.Write.contents c.args.console.now.errors) new) n.3.2 c.tell_why.ensures;
        noted = inl (Keeps-refl new);
      };
    }

pub returns-clause-gains : goal.returns-clause-gains
returns-clause-gains g c =
    let n = c.in_ok-script.ensures.named in
    (written_gains _ (IsMigrateAnswer n.0) _ _ c.write_migration.result (c.write_migration.ensures n.0 c.args.name.now n.2), why_gains Short _ _ _ c.tell_why.ensures)
