use Rattle.std.proofs.Common.{sym, ◌∙◌}
use Rattle.cert_text.proofs.Inner.{runs_told, cert_told, no_cert_told}
use Rattle.cert_text.proofs.order_lines.OrderPartsStages.text.Goals as goal

pub returns-then-has_runs-clause-found : goal.returns-then-has_runs-clause-found
returns-then-has_runs-clause-found c =
    let p = c.args.self in
    runs_told c.args.begun p.form p.runs p.cert c.text.result c.if-not-begun.false (sym c.has_runs.ensures ∙ c.if-has_runs.true) c.requires c.text.ensures.found

pub returns-else-has_runs-clause-found : goal.returns-else-has_runs-clause-found
returns-else-has_runs-clause-found c =
    let p = c.args.self in
    cert_told c.args.begun p.form p.runs p.cert c.text-else-has_runs.result c.if-not-begun.false (sym c.has_runs.ensures ∙ c.if-has_runs.false) c.requires c.text-else-has_runs.ensures.found

pub returns-else-has_runs-clause-none : goal.returns-else-has_runs-clause-none
returns-else-has_runs-clause-none c =
    let p = c.args.self in
    no_cert_told c.args.begun p.form p.runs p.cert c.text-else-has_runs.result c.if-not-begun.false (sym c.has_runs.ensures ∙ c.if-has_runs.false) c.requires c.goes_on.ensures.begins c.goes_on-2.ensures.begins c.text-else-has_runs.ensures.none
