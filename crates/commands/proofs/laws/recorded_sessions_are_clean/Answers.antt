use Rattle.commands.proofs.Recorded.{steps_clean}
use Rattle.commands.proofs.laws.recorded_sessions_are_clean.Goals as goal

pub returns : goal.returns
returns c = steps_clean
