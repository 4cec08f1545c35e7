use Rattle.kept_faults.proofs.Again.{same_verdict}
use Rattle.kept_faults.proofs.thin_laws.thinned_again_is_alike.Goals as goal

pub returns : goal.returns
returns c = λ whole thin h. same_verdict h
