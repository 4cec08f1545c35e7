use Rattle.std.proofs.Common.{◌∙◌, sym, Some, None}
use Rattle.clap.specs.Words.{found_of, rows_of}
use Rattle.command_words.proofs.Rows.{asked_by_row}
use Rattle.command_words.proofs.giving.job_of.Goals as goal

pub returns-in-Some : goal.returns-in-Some
returns-in-Some c = c.texts_given.ensures ∙ sym (asked_by_row c.commands.result.now c.args.name.now (rows_of (found_of c.args.matches.now)) (Some c.in-Some.row.now) c.commands.ensures c.in-Some.ensures)

pub returns-in-None : goal.returns-in-None
returns-in-None c = sym (asked_by_row c.commands.result.now c.args.name.now (rows_of (found_of c.args.matches.now)) None c.commands.ensures c.in-None.ensures)
