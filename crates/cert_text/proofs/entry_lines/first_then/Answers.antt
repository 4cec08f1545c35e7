use Rattle.cert_text.proofs.EntryLaws.{dashes_alone, look_at}
use Rattle.cert_text.proofs.entry_lines.first_then.Goals as goal

pub returns-in-Some-clause-whole : goal.returns-in-Some-clause-whole
returns-in-Some-clause-whole c = λ first fits e. dashes_alone c.args.size c.args.text.now c.in-Some.rest.now first fits c.in-Some.ensures e

pub returns-in_err-see-clause-whole : goal.returns-in_err-see-clause-whole
returns-in_err-see-clause-whole c = λ first fits e.
    let s = look_at c.args.size c.args.text.now c.in_ok-access.rest.now c.in_ok-access.access first fits e c.in_default.ensures c.in_ok-access.ensures.whole in
    absurd (c.in_err-see.ensures.whole s.0 s.1 s.2)

pub returns-clause-whole : goal.returns-clause-whole
returns-clause-whole c = λ first fits e.
    let s = look_at c.args.size c.args.text.now c.in_ok-access.rest.now c.in_ok-access.access first fits e c.in_default.ensures c.in_ok-access.ensures.whole in
    c.in_ok-see.ensures.whole s.0 s.1 s.2
