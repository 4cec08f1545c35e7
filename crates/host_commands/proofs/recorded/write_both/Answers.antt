use Rattle.text_lines.specs.Text.{ended}
use Rattle.text_access.proofs.Fronts.{front_before, front_behind}
use Rattle.session_log.specs.Grammar.{session_lines}
use Rattle.host_commands.proofs.recorded.write_both.Goals as goal

pub returns-in_err-write_in_pieces-clause-front : goal.returns-in_err-write_in_pieces-clause-front
returns-in_err-write_in_pieces-clause-front g c = front_before _ _ (ended (session_lines c.args.session.now)) c.args.behind.now c.write_in_pieces.ensures.front

pub returns-clause-front : goal.returns-clause-front
returns-clause-front g c = front_behind _ (g.O.Write.contents c.write_in_pieces.new.output) _ (ended (session_lines c.args.session.now)) c.args.behind.now c.in_ok-write_in_pieces.ensures.whole c.write_or_why.ensures.front
