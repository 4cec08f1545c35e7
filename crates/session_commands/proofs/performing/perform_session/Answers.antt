use Rattle.text_access.proofs.Fronts.{both_gain}
use Rattle.session_commands.proofs.Gained.{unread_later}
use Rattle.session_commands.proofs.performing.perform_session.Goals as goal

pub returns-in-Err-clause-unread : goal.returns-in-Err-clause-unread
returns-in-Err-clause-unread g c = unread_later c.tell_stop.result _ _ _ c.make.ensures.gains.1 c.tell_stop.ensures.unread

pub returns-in-Err-clause-gains : goal.returns-in-Err-clause-gains
returns-in-Err-clause-gains g c = (c.make.ensures.gains.0, both_gain _ _ _ c.make.ensures.gains.1 c.tell_stop.ensures.gains)

pub returns-in-Ok-clause-written : goal.returns-in-Ok-clause-written
returns-in-Ok-clause-written g c = λ is. c.in-Ok.ensures.written (let is = is in cc)
