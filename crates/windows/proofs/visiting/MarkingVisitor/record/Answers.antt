use Rattle.std.proofs.lemmas.Result.{on_ok_weaker}
use Rattle.windows.proofs.visiting.MarkingVisitor.record.Goals as goal

pub returns : goal.returns
returns g c = λ d next met. on_ok_weaker c.note.result (λ found. (met.0, found)) (c.note.ensures d c.args.number next met.1)
