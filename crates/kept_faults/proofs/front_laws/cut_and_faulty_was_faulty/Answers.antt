use Rattle.kept_faults.proofs.Example.{safe_front}
use Rattle.kept_faults.proofs.Lone.{left_is_front, left_has_no_fault, left_is_safe}
use Rattle.kept_faults.proofs.Parts.{below, is_front_of_whole, cut_again}
use Rattle.kept_faults.proofs.FrontSafe.{still_safe, still_faultless}
use Rattle.kept_faults.proofs.front_laws.cut_and_faulty_was_faulty.Goals as goal

pub returns : goal.returns
returns c = record {
  safe = λ s c front. still_safe s c front;
  no_fault = λ s c front. still_faultless s c front;
  lone = λ s c front shape. left_is_front s c front shape;
  recorded = λ s d c front. (is_front_of_whole s d c front, cut_again s d c (below s d c front));
  left = λ s d c front. left_has_no_fault s d c front;
  left_safe = λ s d c front. left_is_safe s d c front;
  unsaid = safe_front;
}
