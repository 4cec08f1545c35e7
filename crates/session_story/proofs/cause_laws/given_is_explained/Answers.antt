use Rattle.session_story.proofs.Shown.{explained, given}
use Rattle.session_story.proofs.cause_laws.given_is_explained.Goals as goal

pub returns-clause-given : goal.returns-clause-given
returns-clause-given c = λ s n q shape some late giver. given s shape some n q late giver

pub returns-clause-explained : goal.returns-clause-explained
returns-clause-explained c = λ s n page cause shape some is. explained s shape some n page cause is
