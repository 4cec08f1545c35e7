use Rattle.std.proofs.Common.{ℕ, List, ◌++◌, ap, ◌∙◌}
use Rattle.judge_commands.specs.Answers.{verdict_text}
use Rattle.judge_commands.proofs.checking.judge_read.Goals as goal

pub returns-clause-told : goal.returns-clause-told
returns-clause-told g c = (c.in_ok-push_told.ensures ∙ ap (λ (t : List ℕ). t ++ verdict_text c.args.form c.in_ok-verdict.verdict) c.new-text.ensures.items, c.verdict_status.ensures)
