use Rattle.std.proofs.Common.{ℕ, Option, subst}
use Rattle.recordings.specs.Wide.{guest_of}
use Rattle.session_commands.specs.Facts.{IsFirstLate}
use Rattle.session_commands.proofs.Late.{first_stays}
use Rattle.session_commands.proofs.facts.with_late.Goals as goal

pub returns-in-Some : goal.returns-in-Some
returns-in-Some c = λ guest at resumed late. first_stays guest (guest_of c.args.rec.now) c.in-Some.first (subst (λ (o : Option ℕ). IsFirstLate o guest) c.in-Some.is late)

pub returns-in-None : goal.returns-in-None
returns-in-None c = λ guest at resumed late. c.first_late.ensures guest at resumed (subst (λ (o : Option ℕ). IsFirstLate o guest) c.in-None.is late)
