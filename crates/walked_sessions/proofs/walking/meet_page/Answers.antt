use Rattle.std.proofs.Common.{subst}
use Rattle.recordings.specs.Seen.{with_init}
use Rattle.recordings.specs.Wide.{init_of}
use Rattle.recordings.specs.declared.wide.WideInit.{WideInit}
use Rattle.walked_sessions.proofs.walking.meet_page.Goals as goal

pub returns : goal.returns
returns g c = λ d before met. subst (λ (page : WideInit). g.V.Visitor.Met c.init.new.self (with_init d (init_of page))) c.in_ok-another.ensures (c.in_ok-init.ensures d before met)
