use Rattle.std.proofs.Common.{◌≡◌, length, drop}
use Rattle.std.specs.Str.{chars}
use Rattle.command_texts.specs.Shown.{are_printed}
use Rattle.command_texts.proofs.shown.are_printed.Given as goal

abbrev pub invariant-loop-character : goal.invariant-loop-character
invariant-loop-character l = are_printed (drop (length l.yielded) (chars l.name)) ≡ are_printed (chars l.name)
