-- The beginning and the end of a message about a refused text.
use Rattle.std.specs.Prelude.{◌≡◌, ◌≤◌, ℕ, List, [], ◌∷◌, ◌++◌}
use Rattle.std.specs.Fmt.{decimal}
use Rattle.text_lines.specs.Text.{IsLine}

-- words after a text's name and a place in it, as NAME:LINE:COLUMN: WORDS, and an LF
abbrev pub placed : List ℕ → ℕ → ℕ → List ℕ → List ℕ
placed name line column words =
    name ++ 58 ∷ decimal line ++ 58 ∷ decimal column ++ 58 ∷ 32 ∷ words ++ 10 ∷ []

-- this appends words in one line after their place, and nothing more; columns count from 1
abbrev pub AddsPlaced : List ℕ → ℕ → List ℕ → List ℕ → Type 0
AddsPlaced name line before after =
    (column : ℕ) × (words : List ℕ) × ((1 ≤ column) × IsLine words × (after ≡ before ++ placed name line column words))

-- this appends words in one line after their place, and perhaps more lines below
abbrev pub AddsPlacedFirst : List ℕ → ℕ → List ℕ → List ℕ → Type 0
AddsPlacedFirst name line before after =
    (first : List ℕ) × (rest : List ℕ) × (AddsPlaced name line before first × (after ≡ first ++ rest))

-- words after a text's name and a line's number, as NAME:LINE: WORDS, and an LF
abbrev pub placed_at : List ℕ → ℕ → List ℕ → List ℕ
placed_at name line words = name ++ 58 ∷ decimal line ++ 58 ∷ 32 ∷ words ++ 10 ∷ []

-- this appends words in one line after their line's number, and nothing more
abbrev pub AddsAt : List ℕ → ℕ → List ℕ → List ℕ → Type 0
AddsAt name line before after = (words : List ℕ) × (IsLine words × (after ≡ before ++ placed_at name line words))
