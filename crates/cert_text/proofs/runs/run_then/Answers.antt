use Rattle.std.proofs.Common.{[], sym, ap, ◌∙◌, arith}
use Rattle.std.specs.Fmt.{decimal}
use Rattle.std.proofs.lemmas.List.{append-nil}
use Rattle.migration_types.specs.declared.size.Limits.{Limits}
use Rattle.cert_text.specs.inner.Limits.{count_small}
use Rattle.cert_text.proofs.RunLaws.{count_at, alone}
use Rattle.cert_text.proofs.runs.run_then.Goals as goal
use Rattle.cert_text.proofs.runs.run_then.Goals.{then-count-eq0-via-then-count-eq0, then-count-eq0-via-else-count-eq0+then-count-from}

pub returns-in_err-count-clause-whole : goal.returns-in_err-count-clause-whole
returns-in_err-count-clause-whole c = λ run fits e.
    let few = fits.few in
    let is = count_at c.args.text.now c.in_ok-after_key.field-0.now c.in_ok-log.text.now run c.in_ok-after_key.ensures e (c.in_ok-log.ensures.whole run.log (decimal run.count)) in
    absurd (c.in_err-count.ensures.none run.count [] (count_small c.args.size run.count few) tt (is ∙ sym (append-nil (decimal run.count))))

pub returns-then-count-eq0-clause-whole : goal.returns-then-count-eq0-clause-whole
returns-then-count-eq0-clause-whole c = λ run fits e.
    let some = fits.some in
    let few = fits.few in
    let is = count_at c.args.text.now c.in_ok-after_key.field-0.now c.in_ok-log.text.now run c.in_ok-after_key.ensures e (c.in_ok-log.ensures.whole run.log (decimal run.count)) in
    let f = c.in_ok-count.ensures.found in
    let same = alone c.in_ok-log.text.now c.in_ok-count.rest.now c.in_ok-count.count run.count f.2 (count_small c.args.size run.count few) f.0 f.1 is in
    let equal = same.0 in
    elim c.then-count-eq0.branch [
      | then-count-eq0-via-then-count-eq0 w ↦ absurd (omega arith)
      | then-count-eq0-via-else-count-eq0+then-count-from w ↦ let most = ap (λ (l : Limits). l.records) w.limits.ensures in absurd (omega arith)
    ]

pub returns-clause-whole : goal.returns-clause-whole
returns-clause-whole c = λ run fits e.
    let few = fits.few in
    let is = count_at c.args.text.now c.in_ok-after_key.field-0.now c.in_ok-log.text.now run c.in_ok-after_key.ensures e (c.in_ok-log.ensures.whole run.log (decimal run.count)) in
    let f = c.in_ok-count.ensures.found in
    (alone c.in_ok-log.text.now c.in_ok-count.rest.now c.in_ok-count.count run.count f.2 (count_small c.args.size run.count few) f.0 f.1 is).1
