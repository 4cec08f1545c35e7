use Rattle.std.proofs.Common.{inr, ◌∙◌, sym, arith}
use Rattle.session_commands.proofs.Few.{right_of}
use Rattle.session_commands.proofs.facts.Facts.takes_lane.Goals as goal

pub returns : goal.returns
returns c = λ s facts. (
  λ pull. inr (sym facts.pull ∙ pull),
  λ lane. facts.pull ∙ right_of (λ more. omega (arith, c.if-front-gt0.false, more)) lane,
)
