use Rattle.audit_model.proofs.ExampleA.{from_source}
use Rattle.audit_model.proofs.ExampleB.{balloon}
use Rattle.audit_model.proofs.ExampleC.{fresh}
use Rattle.audit_model.proofs.ExampleD.{over_lane}
use Rattle.audit_model.proofs.laws.premises_can_be_met.Goals as goal

pub returns : goal.returns
returns c = record { from_source = from_source; over_lane = over_lane; balloon = balloon; fresh = fresh }
