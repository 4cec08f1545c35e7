use Rattle.audit_model.proofs.Certifying.{has_certificate}
use Rattle.audit_model.proofs.laws.clean_is_certified.Goals as goal

pub returns : goal.returns
returns c = has_certificate
