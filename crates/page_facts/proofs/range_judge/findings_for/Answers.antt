use Rattle.std.proofs.Common.{◌≡◌, ℕ, ◌+◌, subst, arith}
use Rattle.page_facts.specs.Findings.{IsFindings}
use Rattle.page_facts.proofs.range_judge.findings_for.Goals as goal

pub returns : goal.returns
returns c =
    let first = c.in_ok-judged.ensures.first in
    let value = c.index.ensures.value in
    let here : c.in_ok-judged.judged.range.first + 0 ≡ c.args.page = omega (arith, first, value) in
    subst (λ (p : ℕ). IsFindings c.args.session.now p c.findings_at.result) here c.findings_at.ensures
