use Rattle.std.proofs.Common.{[], sym, ap, ◌∙◌, arith}
use Rattle.std.specs.Fmt.{decimal}
use Rattle.std.proofs.lemmas.List.{append-nil}
use Rattle.migration_types.specs.declared.size.Limits.{Limits}
use Rattle.cert_text.specs.inner.Limits.{number_small}
use Rattle.cert_text.proofs.RunLaws.{alone}
use Rattle.cert_text.proofs.entry_lines.record_then.Goals as goal

pub returns-in_err-number-clause-whole : goal.returns-in_err-number-clause-whole
returns-in_err-number-clause-whole c = λ n lt e. absurd (c.in_err-number.ensures.none n [] (number_small c.args.size n lt) tt (e ∙ sym (append-nil (decimal n))))

pub returns-then-number-from-clause-whole : goal.returns-then-number-from-clause-whole
returns-then-number-from-clause-whole c = λ n lt e.
    let f = c.in_ok-number.ensures.found in
    let same = alone c.args.text.now c.in_ok-number.rest.now c.in_ok-number.number n f.2 (number_small c.args.size n lt) f.0 f.1 e in
    let equal = same.0 in
    let past = ap (λ (l : Limits). l.records) c.limits.ensures in
    absurd (omega arith)

pub returns-clause-whole : goal.returns-clause-whole
returns-clause-whole c = λ n lt e.
    let f = c.in_ok-number.ensures.found in
    (alone c.args.text.now c.in_ok-number.rest.now c.in_ok-number.number n f.2 (number_small c.args.size n lt) f.0 f.1 e).1
