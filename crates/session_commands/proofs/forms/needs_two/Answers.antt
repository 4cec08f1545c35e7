use Rattle.std.proofs.Common.{inr}
use Rattle.session_commands.proofs.Few.{right_of}
use Rattle.session_commands.proofs.forms.needs_two.Goals as goal

pub returns : goal.returns
returns c = λ s facts.
    let late = c.has_late.ensures s facts in (
      λ some. inr (late.0 some),
      λ needs. late.1 (right_of (λ lane. let has = (c.has_lane.ensures s facts).1 lane in absurd cc) needs),
    )
