-- No line of a table contains a line feed.
use Rattle.std.specs.Prelude.{ℕ, ◌<◌, ◌^◌, List, [], ◌∷◌, map}
use Rattle.std.proofs.Common.{subst, sym}
use Rattle.std.specs.List.{AllByRecursion}
use Rattle.std.specs.Fmt.{decimal}
use Rattle.text_lines.specs.Text.{IsLine}
use Rattle.text_lines.proofs.Plain.{plain_decimal}
use Rattle.windows.specs.Tables.{SpellsTable}

plain_lines : (table : List ℕ) → AllByRecursion (λ n. n < 2 ^ 64) table → AllByRecursion IsLine (map decimal table)
plain_lines [] h = tt
plain_lines (n ∷ table) h = (plain_decimal n h.0, plain_lines table h.1)

pub plain_table : (table : List ℕ) (lines : List (List ℕ)) → SpellsTable table lines → AllByRecursion IsLine lines
plain_table table lines s = subst (AllByRecursion IsLine) (sym s.1) (plain_lines table s.0.each)
