use Rattle.kept_faults.proofs.ThinFaults.{keeps_faults}
use Rattle.kept_faults.proofs.ThinLater.{faults_are_later, same_clean}
use Rattle.kept_faults.proofs.ThinFirst.{keeps_first_faults, first_faults_were, same_clean_page}
use Rattle.kept_faults.proofs.thin_laws.thinned_logs_keep_faults.Goals as goal

pub returns : goal.returns
returns c = record {
  kept = λ s marks thin. keeps_faults marks s thin;
  later = λ s marks thin. faults_are_later marks s thin;
  first = λ s marks thin. keeps_first_faults marks s thin;
  was_first = λ s marks thin. first_faults_were marks s thin;
  clean_page = λ s marks page thin. same_clean_page marks s thin page;
  clean = λ s marks thin. same_clean marks s thin;
}
