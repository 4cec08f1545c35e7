use Rattle.windows.proofs.visiting.WritingVisitor.record.Goals as goal

pub returns : goal.returns
returns g c = λ d next met. (met.0, record { found = c.in_ok-note.ensures d c.args.number next met.1.found; written = c.in_ok-write.ensures d next met.1.written })
