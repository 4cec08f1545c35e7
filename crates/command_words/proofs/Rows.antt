-- Laws on the rows of the table.
use Rattle.std.proofs.Common.{◌≡◌, true, false, List, [], ◌∷◌, Option, Some, refl, sym, ap, ◌∙◌, find, fold, option_map, option_and_then, cond}
use Rattle.std.specs.Str.{bytes_eq}
use Rattle.clap.specs.Words.{App, Row as Given, Text}
use Rattle.command_words.specs.declared.building.Choices.{Choices}
use Rattle.command_words.specs.declared.table.CommandRow.{CommandRow}
use Rattle.command_words.specs.Table.{row_of, rows_of, table}
use Rattle.command_words.specs.Words.{asked_of, given_in, with_command}

-- the row of a name, in the program's table and in the definition
pub find_rows : (rows : List CommandRow) (name : Text) → find (λ row. bytes_eq row.0 name) (rows_of rows) ≡ option_map row_of (find (λ row. bytes_eq row.name.now name) rows)
find_rows [] name = refl
find_rows (row ∷ rows) name = elim (bytes_eq row.name.now name) as (λ b. cond b (Some (row_of row)) (find (λ row. bytes_eq row.0 name) (rows_of rows)) ≡ option_map row_of (cond b (Some row) (find (λ row. bytes_eq row.name.now name) rows))) [ true ↦ refl | false ↦ find_rows rows name ]

-- what is asked for is told by the row that was found
pub asked_by_row : (rows : List CommandRow) (name : Text) (given : List Given) (found : Option CommandRow) → rows_of rows ≡ table → found ≡ find (λ row. bytes_eq row.name.now name) rows → asked_of (name, given) ≡ option_and_then (λ row. given_in given row.1) (option_map row_of found)
asked_by_row rows name given found is e =
    ap (λ t. option_and_then (λ row. given_in given row.1) (find (λ row. bytes_eq row.0 name) t)) (sym is)
    ∙ ap (option_and_then (λ row. given_in given row.1)) (find_rows rows name ∙ ap (option_map row_of) (sym e))

-- the commands of the rows, added in turn
pub fold_rows : (choices : Choices) (app : App) (rows : List CommandRow) → fold (λ app row. with_command choices app (row_of row)) app rows ≡ fold (with_command choices) app (rows_of rows)
fold_rows choices app [] = refl
fold_rows choices app (row ∷ rows) = fold_rows choices (with_command choices app (row_of row)) rows
