-- The line of a record, made from what the record consists of.
use Rattle.std.specs.Prelude.{ℕ, List, [], ◌∷◌, ◌++◌, Option, Some, None}
use Rattle.std.specs.Fmt.{decimal}
use Rattle.text_lines.specs.Contents.{contents_text}
use Rattle.migration_types.specs.declared.rows.Field.{Field}
use Rattle.migration_types.specs.Rows.{Consists, field_number}

-- each field after a space, and then the contents
abbrev pub fields_text : List Field → Option (List ℕ) → List ℕ
fields_text [] None = []
fields_text [] (Some cells) = 32 ∷ contents_text cells
fields_text (f ∷ []) None = 32 ∷ decimal (field_number f)
fields_text (f ∷ []) (Some cells) = 32 ∷ (decimal (field_number f) ++ 32 ∷ contents_text cells)
fields_text (f ∷ g ∷ fields) contents = 32 ∷ (decimal (field_number f) ++ fields_text (g ∷ fields) contents)

-- the word, and what follows it
abbrev pub row_line : Consists → Option (List ℕ) → List ℕ
row_line row contents = row.word ++ fields_text row.fields contents
