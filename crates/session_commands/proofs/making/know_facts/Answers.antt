use Rattle.std.proofs.lemmas.Result.{IfOk-weaker}
use Rattle.session_commands.proofs.making.know_facts.Goals as goal

pub returns : goal.returns
returns g c = IfOk-weaker c.know-known.result _ _ (λ known is. is.0) c.know-known.ensures
