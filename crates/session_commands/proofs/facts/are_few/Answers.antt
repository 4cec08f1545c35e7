use Rattle.std.proofs.Common.{arith}
use Rattle.std.proofs.lemmas.Bool.{le-leb, leb-true}
use Rattle.session_commands.proofs.Few.{few_all, few_each}
use Rattle.session_commands.proofs.facts.are_few.Goals as goal

pub returns : goal.returns
returns c = (
  λ few. let under = leb-true _ _ few in few_each c.args.front c.args.most (omega arith) (omega arith) (omega arith) (omega arith) (omega arith),
  λ few. le-leb _ _ (let all = few_all c.args.front c.args.most few in omega arith),
)
