use Rattle.std.proofs.lemmas.Result.{IfOk-weaker}
use Rattle.order_picture.proofs.svg.print_picture_along.Goals as goal

pub returns-clause-text : goal.returns-clause-text
returns-clause-text c = IfOk-weaker c.picture_text.result _ _ (λ text is. (_, c.in_ok-picture.ensures, is)) c.picture_text.ensures
