use Rattle.walked_sessions.proofs.Needing.{needs_back}
use Rattle.walked_sessions.proofs.needs.Needs.back.Goals as goal

pub returns : goal.returns
returns c = needs_back
