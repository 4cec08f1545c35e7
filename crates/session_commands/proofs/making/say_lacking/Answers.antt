use Rattle.text_access.proofs.Fronts.{both_gain, front_gains}
use Rattle.session_commands.proofs.making.say_lacking.Goals as goal

pub returns-then-is_told-clause-gains : goal.returns-then-is_told-clause-gains
returns-then-is_told-clause-gains g c = both_gain _ _ _ (front_gains _ _ _ c.write_whole-is_told.ensures.front) (front_gains _ _ _ c.write_whole.ensures.front)
