use Rattle.audit_model.proofs.Fits.{session_is}
use Rattle.audit_model.proofs.Clean.{fitting_safe}
use Rattle.audit_model.proofs.laws.any_size_is_judged_alike.Goals as goal

pub returns : goal.returns
returns c = record {
  session = session_is;
  clean = λ s fits shape clean. fitting_safe s clean fits shape;
}
