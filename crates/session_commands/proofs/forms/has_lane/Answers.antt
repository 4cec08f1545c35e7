use Rattle.std.proofs.Common.{inr}
use Rattle.session_commands.proofs.Few.{right_of}
use Rattle.session_commands.proofs.forms.has_lane.Goals as goal

pub returns : goal.returns
returns c = λ s facts.
    let takes = c.takes_lane.ensures s facts in (
      λ some. inr (takes.0 some),
      λ lane. takes.1 (right_of (λ some. some (c.is_empty.ensures.0 c.if-not-is_empty.false)) lane),
    )
