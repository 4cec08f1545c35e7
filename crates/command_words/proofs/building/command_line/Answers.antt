use Rattle.std.proofs.Common.{◌∙◌, sym, ap, ap₂, [], fold}
use Rattle.std.proofs.lemmas.List.{take_all}
use Rattle.std.proofs.lemmas.List.Sums.{fold_more}
use Rattle.clap.specs.Words.{App, with_subcommand}
use Rattle.command_words.specs.declared.requests.Request.TheVariants.{One}
use Rattle.command_words.specs.declared.requests.Takes.TheVariants.{Texts}
use Rattle.command_words.specs.declared.requests.OneText.TheVariants.{Certify}
use Rattle.command_words.specs.declared.table.CommandRow.{CommandRow}
use Rattle.command_words.specs.Table.{row_of}
use Rattle.command_words.specs.Words.{program_words, with_command}
use Rattle.command_words.proofs.Rows.{fold_rows}
use Rattle.command_words.proofs.building.command_line.Goals as goal

-- what stands in the table's place past its end
abbrev no_row : CommandRow
no_row = record {
  name = record { ref_ptr = (0, 0); now = [] };
  about = record { ref_ptr = (0, 0); now = [] };
  takes = Texts (One Certify (record { name = record { ref_ptr = (0, 0); now = [] }; help = record { ref_ptr = (0, 0); now = [] } }));
}

pub loop-row-preserved : goal.loop-row-preserved
loop-row-preserved c =
    c.in_ok-line.ensures.shape c.in_ok-command.ensures.local
    ∙ ap₂ (λ (app command : App). with_subcommand app command.top) c.loop-row.invariant c.in_ok-command.ensures.app
    ∙ sym (fold_more (λ app row. with_command c.args.choices app (row_of row)) program_words c.commands-row-items.result.now c.loop-row.row-index no_row c.loop-row-test.true)

pub returns : goal.returns
returns c =
    let rows = c.commands-row-items.result.now in
    c.loop-row.invariant
    ∙ ap (fold (λ app row. with_command c.args.choices app (row_of row)) program_words) (take_all c.loop-row.row-index rows c.loop-row-test.false)
    ∙ fold_rows c.args.choices program_words rows
    ∙ ap (fold (with_command c.args.choices) program_words) c.commands-row-items.ensures
