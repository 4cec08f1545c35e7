use Rattle.std.proofs.Common.{[], sym, ◌∙◌, arith}
use Rattle.std.specs.Fmt.{decimal}
use Rattle.std.proofs.lemmas.List.{append-nil}
use Rattle.text_lines.proofs.Fronts.{numbers_same}
use Rattle.text_lines.proofs.fields.number_last.Goals as goal

pub returns-in_err-n-clause-whole : goal.returns-in_err-n-clause-whole
returns-in_err-n-clause-whole c = λ n le e. let limit = c.ranges.limit.fits in absurd (c.in_err-n.ensures.none n [] (omega arith) tt (e ∙ sym (append-nil (decimal n))))

pub returns-then-n-limit-clause-whole : goal.returns-then-n-limit-clause-whole
returns-then-n-limit-clause-whole c = λ n le e.
    let limit = c.ranges.limit.fits in
    let f = c.in_ok-n.ensures.found in
    let same = numbers_same c.in_ok-n.n n c.in_ok-n.rest.now [] f.2 (omega arith) f.1 tt (sym f.0 ∙ (e ∙ sym (append-nil (decimal n)))) in
    let equal = same.0 in
    absurd (omega arith)

pub returns-clause-whole : goal.returns-clause-whole
returns-clause-whole c = λ n le e.
    let limit = c.ranges.limit.fits in
    let f = c.in_ok-n.ensures.found in
    (numbers_same c.in_ok-n.n n c.in_ok-n.rest.now [] f.2 (omega arith) f.1 tt (sym f.0 ∙ (e ∙ sym (append-nil (decimal n))))).1
