use Rattle.std.specs.Prelude.{◌≡◌}
use Rattle.session_commands.specs.Telling.{SaysUnless}
use Rattle.session_commands.proofs.words.tell_each.Given as goal

abbrev pub invariant-loop-place : goal.invariant-loop-place
invariant-loop-place l = SaysUnless l.fn.said.items l.said.items (l.place ≡ 0)
