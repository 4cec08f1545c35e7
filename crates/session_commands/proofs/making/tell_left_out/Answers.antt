use Rattle.session_commands.proofs.making.tell_left_out.Goals as goal

pub returns : goal.returns
returns g c = c.tell_cuts.ensures
