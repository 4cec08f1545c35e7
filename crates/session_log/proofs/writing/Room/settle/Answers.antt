use Rattle.std.proofs.Common.{rules, ◌≡◌, ◌++◌, subst}
use Rattle.std.specs.Io.KnownBytes.{Appends}
use Rattle.text_access.specs.Written.{AppendsPart}
use Rattle.session_log.proofs.Rooms.{if_err, none_held, none_written}
use Rattle.session_log.proofs.writing.Room.settle.Goals as goal

pub returns-then-is_err-clause-err : goal.returns-then-is_err-clause-err
returns-then-is_err-clause-err g c = λ held line some p. none_written (g.W.Write.contents c.args.output.now) held line some

pub returns-in_err-write_or_why-clause-err : goal.returns-in_err-write_or_why-clause-err
returns-in_err-write_or_why-clause-err g c = λ held line some p.
    let is : c.args.self.now.bytes.items ≡ held ++ line = search rules in
    if_err _ (subst (AppendsPart (g.W.Write.contents c.args.output.now) (g.W.Write.contents c.write_or_why.new.output)) is (rw c.deref.ensures.value at c.in_err-write_or_why.ensures.part))

pub returns-in_ok-write_or_why-clause-ok : goal.returns-in_ok-write_or_why-clause-ok
returns-in_ok-write_or_why-clause-ok g c = λ held line p.
    let start = g.W.Write.contents c.args.output.now in
    let end = g.W.Write.contents c.write_or_why.new.output in
    let is : c.args.self.now.bytes.items ≡ held ++ line = search rules in
    none_held start end c.clear.new.self.items (held ++ line) (subst (Appends start end) is (rw c.deref.ensures.value at c.in_ok-write_or_why.ensures.whole)) c.clear.ensures.items
