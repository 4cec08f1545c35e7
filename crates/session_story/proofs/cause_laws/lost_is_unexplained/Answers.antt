use Rattle.session_story.proofs.Unexplained.{unexplained}
use Rattle.session_story.proofs.cause_laws.lost_is_unexplained.Goals as goal

pub returns : goal.returns
returns c = λ s n page order fits shape read un e. unexplained s fits shape n page read un order e
