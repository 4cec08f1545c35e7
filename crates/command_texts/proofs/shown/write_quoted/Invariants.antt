use Rattle.std.proofs.Common.{length, drop}
use Rattle.std.specs.Str.{chars}
use Rattle.command_texts.proofs.Escapes.{IsQuotedTo}
use Rattle.command_texts.proofs.shown.write_quoted.Given as goal

abbrev pub invariant-loop-character : goal.invariant-loop-character
invariant-loop-character g l = IsQuotedTo (g.W.Write.contents l.fn.output) (g.W.Write.contents l.output) l.name (drop (length l.yielded) (chars l.name))
