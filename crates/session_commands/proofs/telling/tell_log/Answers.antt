use Rattle.std.proofs.Common.{◌≡◌, ℕ, arith, subst}
use Rattle.session_commands.specs.Logs.{records_in, HasAll, LacksNothing}
use Rattle.session_commands.proofs.telling.tell_log.Goals as goal

pub returns-then-branch-count : goal.returns-then-branch-count
returns-then-branch-count g c = λ none.
    let h = c.in_ok-count.ensures none in
    let same : c.in_ok-count.count ≡ records_in c.log-log.result.now = omega (arith, c.if-branch-count.true, c.in_ok-records-in-None.ensures.counted) in
    (h.0, (subst HasAll c.log-log.ensures (subst (λ (n : ℕ). LacksNothing c.log-log.result.now n) same h.1), c.in-None.is))

pub returns : goal.returns
returns g c = λ none. absurd (c.in_ok-tell_missing.ensures none)
