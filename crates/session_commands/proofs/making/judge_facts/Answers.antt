use Rattle.std.proofs.Common.{ℕ, ◌∙◌, ◌<◌, subst}
use Rattle.session_commands.proofs.making.judge_facts.Goals as goal

pub returns : goal.returns
returns g c = λ s facts. (
  c.written_front-front.ensures s facts,
  λ none.
      let empty = c.in_ok-tell_empty.ensures none in
      let left = c.in_ok-tell_left_out.ensures s facts.naming empty.0 in
      let before = c.in_ok-tell_unresumed.ensures.unless left.0 in
      (before.0, (c.in_ok-check_facts.ensures (c.as_slice.ensures.value ∙ before.0), left.1, λ log other. subst (λ (n : ℕ). 0 < n) (c.counts.ensures s facts.naming log) (empty.1 log other))),
)
