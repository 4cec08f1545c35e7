use Rattle.session_commands.proofs.Extended.{extends_more, extends_same}
use Rattle.session_commands.proofs.words.push_text.Goals as goal

pub loop-character-init : goal.loop-character-init
loop-character-init c = extends_same _

pub loop-character-preserved : goal.loop-character-preserved
loop-character-preserved c = extends_more _ _ _ c.loop-character.invariant c.in_ok-push_character.ensures
