use Rattle.std.proofs.Common.{◌++◌, List, ◌∙◌, ap, sym}
use Rattle.session_answers.specs.declared.records.ToldRecord.{ToldRecord}
use Rattle.session_answers.proofs.Told.{told_past, told_there}
use Rattle.session_answers.proofs.records.take_at.Goals as goal

pub returns-in_ok-push-in-Some : goal.returns-in_ok-push-in-Some
returns-in_ok-push-in-Some g c = c.in_ok-push-in-Some.ensures.items ∙ ap (λ (t : List ToldRecord). c.args.records.now.items ++ t) (sym (told_there (g.L.Lines.tell c.args.lines.now) c.args.session.now c.args.role c.args.log c.args.place c.in-Some.line c.line.result c.in-Some.ensures c.line.ensures))

pub returns-in-None : goal.returns-in-None
returns-in-None g c = told_past (g.L.Lines.tell c.args.lines.now) c.args.session.now c.args.role c.args.log c.args.place c.in-None.ensures c.args.records.now.items
