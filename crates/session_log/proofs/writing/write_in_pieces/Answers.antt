use Rattle.text_lines.specs.Text.{ended}
use Rattle.session_grammar.specs.Grammar.{session_lines}
use Rattle.session_log.proofs.Rooms.{err_then, front_of, part_cut}
use Rattle.session_log.proofs.writing.write_in_pieces.Goals as goal

pub returns-clause-front : goal.returns-clause-front
returns-clause-front g c = front_of (g.W.Write.contents c.args.output.now) (g.W.Write.contents c.lines.new.output) (g.W.Write.contents c.write_or_why.new.output) c.lines.new.self.bytes.items (ended (session_lines c.args.session.now)) c.in_ok-lines.ensures.ok (rw c.deref.ensures.value at c.write_or_why.ensures.front)

pub returns-clause-part : goal.returns-clause-part
returns-clause-part g c =
    err_then _ (rw c.deref.ensures.value at c.write_or_why.ensures.part)
    (part_cut (g.W.Write.contents c.args.output.now) (g.W.Write.contents c.lines.new.output) (g.W.Write.contents c.write_or_why.new.output) c.lines.new.self.bytes.items (ended (session_lines c.args.session.now)) c.in_ok-lines.ensures.ok)
