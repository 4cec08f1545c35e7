use Rattle.commands.proofs.Clean.{clean_migrated}
use Rattle.commands.proofs.laws.clean_sessions_are_migrated.Goals as goal

pub returns : goal.returns
returns c = clean_migrated c.session_texts_are_unambiguous.ensures c.certified_is_safe.ensures.migrated
