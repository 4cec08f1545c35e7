use Rattle.session_commands.specs.Telling.{Extends}
use Rattle.session_commands.proofs.words.push_text.Given as goal

abbrev pub invariant-loop-character : goal.invariant-loop-character
invariant-loop-character l = Extends l.fn.out.items l.out.items
