use Rattle.std.proofs.Common.{subst}
use Rattle.text_lines.specs.Answer.{IsRead}
use Rattle.cert_text.specs.Order.{SpellsOrder}
use Rattle.judged_texts.proofs.Outcomes.{along_of}
use Rattle.judged_texts.proofs.replaying.along_read.Goals as goal

pub returns-in-Ok : goal.returns-in-Ok
returns-in-Ok g c = λ text read.
    along_of c.args.session.now text c.as_slice.result.now c.in-Ok.runs c.outcome.result c.as_slice.ensures (subst (IsRead SpellsOrder text) c.in-Ok.is read) c.outcome.ensures
