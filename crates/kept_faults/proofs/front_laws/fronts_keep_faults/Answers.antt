use Rattle.kept_faults.proofs.FrontFaults.{keeps_faults, faults_were, still_clean}
use Rattle.kept_faults.proofs.FrontFirst.{keeps_first_faults, first_faults_were, still_clean_page}
use Rattle.kept_faults.proofs.FrontLater.{first_faults_are_later}
use Rattle.kept_faults.proofs.Missed.{lacks_fault}
use Rattle.kept_faults.proofs.Named.{front_has_halt}
use Rattle.kept_faults.proofs.front_laws.fronts_keep_faults.Goals as goal

pub returns : goal.returns
returns c = record {
  kept = λ s c front. keeps_faults s c front;
  were = λ s c front. faults_were s c front;
  lacking = lacks_fault;
  halt = λ s c front shape. front_has_halt s shape c front;
  first = λ s c front halt. keeps_first_faults s c front halt;
  was_first = λ s c front halt. first_faults_were s c front halt;
  later = λ s c front halt. first_faults_are_later s c front halt;
  clean_page = λ s c page front halt. still_clean_page s c front halt page;
  clean = λ s c front. still_clean s c front;
}
