-- The text of a table of lines. Each line of the table has the number of a line of another text.
use Rattle.std.specs.Prelude.{◌≡◌, ℕ, ◌+◌, ◌*◌, ◌<◌, ◌≤◌, ◌^◌, List, length, map}
use Rattle.std.specs.List.{AllByRecursion}
use Rattle.std.specs.Fmt.{decimal}
use Rattle.text_lines.specs.Text.{ended}
use Rattle.migration_types.specs.Limits.{most_pages, longest_log}

-- The most lines of a table: as many as the text of a session can have. Ten of those are no initial page and no record:
-- four before the initial pages, one before each of the five logs, and the last.
abbrev pub most_lines : ℕ
most_lines = 10 + most_pages + 5 * longest_log

pub record AreLines (table : List ℕ) : Type 0 where
  pub few : length table ≤ most_lines
  pub each : AllByRecursion (λ n. n < 2 ^ 64) table

-- the text of a table
abbrev pub table_text : List ℕ → List ℕ
table_text table = ended (map decimal table)

-- these are the lines of this table's text
abbrev pub SpellsTable : List ℕ → List (List ℕ) → Type 0
SpellsTable table lines = AreLines table × (lines ≡ map decimal table)
