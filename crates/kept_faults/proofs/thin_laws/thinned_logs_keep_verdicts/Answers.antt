use Rattle.kept_faults.proofs.ThinFits.{fits_thin, session_thin}
use Rattle.kept_faults.proofs.ThinMergings.{same_mergings}
use Rattle.kept_faults.proofs.ThinSafe.{same_safe}
use Rattle.kept_faults.proofs.ThinShape.{same_shape}
use Rattle.kept_faults.proofs.thin_laws.thinned_logs_keep_verdicts.Goals as goal

pub returns : goal.returns
returns c = record {
  right = λ s marks thin. same_shape marks s thin;
  merges = λ s marks thin. same_mergings marks s thin;
  fits = λ s marks thin. fits_thin marks s thin.has_marks;
  session = λ s marks thin. session_thin marks s thin.has_marks;
  safe = λ s marks thin. same_safe marks s thin;
}
