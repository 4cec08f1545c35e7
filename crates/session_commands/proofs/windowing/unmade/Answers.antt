use Rattle.text_access.proofs.Fronts.{both_gain}
use Rattle.session_commands.proofs.windowing.unmade.Goals as goal

pub returns-clause-gains : goal.returns-clause-gains
returns-clause-gains g c = both_gain _ _ _ c.say-error.ensures c.tell_session_in.ensures
