use Rattle.kept_faults.proofs.FrontFits.{still_fits, still_session}
use Rattle.kept_faults.proofs.FrontShape.{keeps_shape, keeps_shape_faults, still_right}
use Rattle.kept_faults.proofs.front_laws.fronts_keep_shapes.Goals as goal

pub returns : goal.returns
returns c = record {
  records = λ s c front. keeps_shape s c front;
  faults = λ s c front. keeps_shape_faults s c front;
  fits = λ s c. still_fits c s;
  session = λ s c. still_session c s;
  right = λ s c front. still_right s c front;
}
