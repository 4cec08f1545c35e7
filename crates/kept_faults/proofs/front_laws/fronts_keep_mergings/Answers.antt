use Rattle.kept_faults.proofs.FrontMergings.{keeps_mergings, still_merges, mergings_go_on, is_exactly}
use Rattle.kept_faults.proofs.front_laws.fronts_keep_mergings.Goals as goal

pub returns : goal.returns
returns c = record {
  kept = λ s c front. keeps_mergings s c front;
  merges = λ s c front. still_merges s c front;
  exactly = λ s c order front. is_exactly s c front order;
  go_on = λ s c front. mergings_go_on s c front;
}
