use Rattle.audit_model.proofs.FirstVersion.{first_version_plain}
use Rattle.audit_model.proofs.laws.first_version_is_plain.Goals as goal

pub returns : goal.returns
returns c = first_version_plain
