use Rattle.std.proofs.Common.{ℕ, List, ◌++◌, ap, ◌∙◌}
use Rattle.judge_commands.specs.Replayed.{outcome_line}
use Rattle.judge_commands.proofs.replaying.replay_read.Goals as goal

pub returns-clause-told : goal.returns-clause-told
returns-clause-told g c = λ first second session runs. record {
  value = c.in_ok-outcome.outcome;
  is_right = c.in_ok-outcome.ensures first second session runs;
  is_text = c.in_ok-push_outcome.ensures ∙ ap (λ (t : List ℕ). t ++ outcome_line c.in_ok-outcome.outcome) c.new-text.ensures.items;
  is_status = c.outcome_status.ensures;
}
