use Rattle.cert_text.proofs.Inner.{held_begins, held_few}
use Rattle.cert_text.proofs.order_lines.OrderPartsStages.goes_on.Goals as goal

pub returns-clause-begins : goal.returns-clause-begins
returns-clause-begins c =
    let p = c.args.self.now in
    held_begins c.args._begun p.form p.runs p.cert c.requires c.goes_on.ensures.begins c.goes_on-2.ensures.begins

pub returns-clause-few : goal.returns-clause-few
returns-clause-few c =
    let p = c.args.self.now in
    held_few c.args._begun p.form p.runs p.cert c.goes_on.ensures.begins c.goes_on-2.ensures.begins
