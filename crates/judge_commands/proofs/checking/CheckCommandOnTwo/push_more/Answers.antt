use Rattle.std.proofs.Common.{ℕ, Result, subst}
use Rattle.text_lines.specs.Answer.{IsRead}
use Rattle.migration_types.specs.Certs.{Certified}
use Rattle.migration_types.specs.Sessions.{Recorded}
use Rattle.session_log.specs.Grammar.{SpellsSession}
use Rattle.cert_text.specs.Grammar.{SpellsCert}
use Rattle.judge_commands.proofs.Misfits.{misfit_added, no_cert, no_session}
use Rattle.judge_commands.proofs.checking.CheckCommandOnTwo.push_more.Goals as goal

pub returns-in-Ok-cert : goal.returns-in-Ok-cert
returns-in-Ok-cert g c = λ texts session cert said. misfit_added texts c.args.name.now _ _ c.args.verdict c.push_misfit.result said c.push_misfit.ensures

pub returns-in-Err-cert : goal.returns-in-Err-cert
returns-in-Err-cert g c = λ texts session cert said.
    (c.args.verdict, said, no_cert texts c.args.name.now _ _ (subst (λ (r : Result Certified ℕ). IsRead SpellsCert texts.1 r) c.in-Err-cert.is cert) c.args.verdict said)

pub returns-in-Err : goal.returns-in-Err
returns-in-Err g c = λ texts session cert said.
    (c.args.verdict, said, no_session texts c.args.name.now _ _ (subst (λ (r : Result Recorded ℕ). IsRead SpellsSession texts.0 r) c.in-Err.is session) c.args.verdict said)
