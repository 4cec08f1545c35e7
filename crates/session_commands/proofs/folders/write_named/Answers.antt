use Rattle.text_access.proofs.Fronts.{both_gain, front_gains}
use Rattle.session_commands.proofs.folders.write_named.Goals as goal

pub returns : goal.returns
returns g c = both_gain _ _ _ (front_gains _ _ _ c.write_whole.ensures.front) (front_gains _ _ _ c.write_shown.ensures.front)
