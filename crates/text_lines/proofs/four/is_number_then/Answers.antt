use Rattle.std.proofs.lemmas.Bool.{eqb-true}
use Rattle.text_lines.proofs.Fronts.{number_found}
use Rattle.text_lines.proofs.four.is_number_then.Goals as goal

pub returns : goal.returns
returns c = λ same.
    let r = c.requires in
    number_found c.args.text.now c.args.n c.args.count c.args.end r.digits r.count r.within r.end c.if-n-count.false (eqb-true _ _ same)
