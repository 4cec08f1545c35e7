use Rattle.std.proofs.Common.{◌∙◌, refl, sym}
use Rattle.session_commands.proofs.gathering.whole_session.Goals as goal

pub session_of-requires-clause-whole : goal.session_of-requires-clause-whole
session_of-requires-clause-whole g c = sym c.as_slice.ensures.value ∙ c.say_lacking.ensures.asked c.if-not-say_lacking.false refl
