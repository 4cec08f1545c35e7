use Rattle.cert_text.proofs.FirstLines.{no_form_begins}
use Rattle.cert_text.proofs.order_lines.OrderParts.first.Goals as goal

pub returns-in-None-clause-refused : goal.returns-in-None-clause-refused
returns-in-None-clause-refused c = λ other. no_form_begins c.args.line.now c.in-None.ensures.none
