use Rattle.text_access.proofs.Fronts.{both_gain, front_gains}
use Rattle.session_commands.proofs.folders.tell_named.Goals as goal

pub returns-then-write_named : goal.returns-then-write_named
returns-then-write_named g c = both_gain _ _ _ c.write_named.ensures (both_gain _ _ _ c.write_named-2.ensures (front_gains _ _ _ c.write_whole.ensures.front))

pub returns-else-write_named : goal.returns-else-write_named
returns-else-write_named g c = both_gain _ _ _ c.write_named.ensures c.write_named-2.ensures
