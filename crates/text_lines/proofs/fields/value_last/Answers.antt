use Rattle.std.proofs.Common.{[], sym, ◌∙◌}
use Rattle.std.specs.Fmt.{decimal}
use Rattle.std.proofs.lemmas.List.{append-nil}
use Rattle.text_lines.proofs.Fronts.{numbers_same}
use Rattle.text_lines.proofs.fields.value_last.Goals as goal

pub returns-in_err-n-clause-whole : goal.returns-in_err-n-clause-whole
returns-in_err-n-clause-whole c = λ n lt e. absurd (c.in_err-n.ensures.none n [] lt tt (e ∙ sym (append-nil (decimal n))))

pub returns-clause-whole : goal.returns-clause-whole
returns-clause-whole c = λ n lt e.
    let f = c.in_ok-n.ensures.found in
    (numbers_same c.in_ok-n.n n c.in_ok-n.rest.now [] f.2 lt f.1 tt (sym f.0 ∙ (e ∙ sym (append-nil (decimal n))))).1
