use Rattle.std.proofs.Common.{ap}
use Rattle.migration_types.specs.declared.records.LaneRec.TheVariants as lane
use Rattle.migration_types.specs.Sessions.{HasLane, LaneRecFits}
use Rattle.recordings.specs.declared.wide.WideLane.TheVariants as wide
use Rattle.recordings.specs.Wide.{lane_of}
use Rattle.walked_sessions.proofs.Found.{named, IsBelow}
use Rattle.walked_sessions.proofs.records.WideLaneWideRecord.into_record.Goals as goal

pub returns : goal.returns
returns c =
    let at = c.in_ok-sending.ensures.0 in
    named lane_of LaneRecFits c.args._machine c.args.self (wide.Down c.sending_of.result) (lane.Down c.in_ok-sending.sending) c.lane_number.result (λ n version size. HasLane version × IsBelow n version size) c.sending_of.result c.in_ok-sending.sending c.sending_of.ensures (ap lane.Down at) at (λ version size. (λ h. h, λ h. h)) c.lane_number.ensures
