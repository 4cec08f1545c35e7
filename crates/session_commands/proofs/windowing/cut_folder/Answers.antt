use Rattle.text_access.proofs.Fronts.{both_gain}
use Rattle.session_commands.proofs.windowing.cut_folder.Goals as goal

pub returns-in_err-tell_name_gone-clause-gains : goal.returns-in_err-tell_name_gone-clause-gains
returns-in_err-tell_name_gone-clause-gains g c = both_gain _ _ _ c.cut_found-seen.ensures.gains c.tell_name_gone.ensures

pub returns-clause-gains : goal.returns-clause-gains
returns-clause-gains g c = both_gain _ _ _ c.cut_found-seen.ensures.gains c.tell_name_gone.ensures
