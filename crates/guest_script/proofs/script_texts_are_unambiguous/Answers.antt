use Rattle.guest_script.proofs.ScriptLaws.{scripts_unambiguous}
use Rattle.guest_script.proofs.script_texts_are_unambiguous.Goals as goal

pub returns : goal.returns
returns c = scripts_unambiguous
