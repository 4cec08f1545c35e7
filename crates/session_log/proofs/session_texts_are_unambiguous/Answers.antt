use Rattle.session_log.proofs.Values.{sessions_unambiguous}
use Rattle.session_log.proofs.session_texts_are_unambiguous.Goals as goal

pub returns : goal.returns
returns c = sessions_unambiguous
