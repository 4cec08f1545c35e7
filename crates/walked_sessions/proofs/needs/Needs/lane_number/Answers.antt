use Rattle.walked_sessions.proofs.Needing.{needs_lane}
use Rattle.walked_sessions.proofs.needs.Needs.lane_number.Goals as goal

pub returns : goal.returns
returns c = needs_lane c.args.number
