use Rattle.walked_sessions.proofs.Needing.{needs_number}
use Rattle.walked_sessions.proofs.needs.Needs.number.Goals as goal

pub returns : goal.returns
returns c = needs_number c.args.number
