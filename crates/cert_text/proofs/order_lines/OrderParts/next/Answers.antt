use Rattle.std.proofs.Common.{sym, ◌∙◌}
use Rattle.cert_text.proofs.Inner.{runs_refuse, cert_refuses}
use Rattle.cert_text.proofs.order_lines.OrderParts.next.Goals as goal

pub returns-then-has_runs-clause-refused : goal.returns-then-has_runs-clause-refused
returns-then-has_runs-clause-refused c =
    let p = c.args.self.now in
    runs_refuse p.form p.runs p.cert c.args.line.now c.line.result (sym c.has_runs.ensures ∙ c.if-has_runs.true) c.requires c.goes_on.ensures.begins c.line.ensures.refused

pub returns-clause-refused : goal.returns-clause-refused
returns-clause-refused c =
    let p = c.args.self.now in
    cert_refuses p.form p.runs p.cert c.args.line.now c.line-2.result (sym c.has_runs.ensures ∙ c.if-has_runs.false) c.requires c.goes_on-2.ensures.begins c.line-2.ensures.refused
