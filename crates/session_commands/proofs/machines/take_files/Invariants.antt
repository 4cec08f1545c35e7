use Rattle.session_commands.specs.Logs.{known_in}
use Rattle.session_commands.proofs.Told.{AreTold}
use Rattle.session_commands.proofs.machines.take_files.Given as goal

abbrev pub invariant-loop-place : goal.invariant-loop-place
invariant-loop-place g l = AreTold (known_in (g.S.TextSource.bytes_of l.texts) l.log) l.place l.taken
