use Rattle.std.proofs.Common.{◌≡◌, subst, arith}
use Rattle.page_facts.specs.Ranges.{IsRange}
use Rattle.page_facts.proofs.range.run_range.Goals as goal

pub returns-clause-range : goal.returns-clause-range
returns-clause-range c =
    let stop = c.loop-n-test.false in
    let last = c.loop-n.auto.n-end in
    let all : c.loop-n.n ≡ c.args.to = omega (arith, stop, last) in
    subst (λ k. IsRange c.args.session.now k c.loop-n.range) all c.loop-n.invariant.range
