use Rattle.audit_model.specs.Mergings.{spelled}
use Rattle.cert_check.proofs.Promised.{promises_of}
use Rattle.cert_check.proofs.judge.check_by.Goals as goal

pub returns-clause-yes : goal.returns-clause-yes
returns-clause-yes g c =
    let s = c.args.session.now in
    let cert = c.args.cert.now in
    let laws = c.certified_is_safe.ensures in
    promises_of s cert c.verdict_by.result c.keeps_limits.ensures (λ is. laws.migrated s cert is) (λ is. laws.safe s cert is (spelled cert.runs) is.certificate.merging) c.verdict_by.ensures
