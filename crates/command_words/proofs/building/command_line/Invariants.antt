use Rattle.std.proofs.Common.{◌≡◌, take, fold}
use Rattle.clap.specs.Words.{app_of}
use Rattle.command_words.specs.Table.{row_of}
use Rattle.command_words.specs.Words.{program_words, with_command}
use Rattle.command_words.proofs.building.command_line.Given as goal

abbrev pub invariant-loop-row : goal.invariant-loop-row
invariant-loop-row l = app_of l.line ≡ fold (λ app row. with_command l.choices app (row_of row)) program_words (take l.row-index l.row-items)
