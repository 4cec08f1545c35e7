use Rattle.page_facts.specs.inner.Parts.{IsPart}
use Rattle.page_facts.proofs.Collected.{collected}
use Rattle.page_facts.proofs.question.answer_parts.Goals as goal

pub returns : goal.returns
returns g c =
    let s = c.args.session.now in
    let answers = g.Q.Question.IsAnswer c.args.question.now s in
    let all = c.in_ok-collect.ensures in
    let chain = rw (c.map.ensures.base, c.map.ensures.f) at all.1 in
    collected _ (λ part. IsPart answers s.geometry.pages part.first part.count part.answer) chain.0 all.0 c.in_ok-collect.field-0 all.2 chain.2
