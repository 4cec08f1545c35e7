-- Texts of lines: how an input is cut, what it spells, and where it stops being a text.
use Rattle.std.specs.Prelude.{◌≡◌, ◌≢◌, ℕ, ◌<◌, ◌≤◌, ◌==◌, List, [], ◌∷◌, ◌++◌, length, take, codes}
use Rattle.std.specs.List.{slice_split, AllByRecursion}

-- the bytes of these lines, each ended by LF
abbrev pub ended : List (List ℕ) → List ℕ
ended [] = []
ended (line ∷ lines) = line ++ 10 ∷ ended lines

-- the lines of an input, which is cut at each LF; the last line is what follows the last LF
abbrev pub lines_of : List ℕ → List (List ℕ)
lines_of input = slice_split (λ b. b == 10) input

-- the last line of a text
abbrev pub closing : List ℕ
closing = codes "end"

-- the input consists of the lines of a text of this value, each ended by LF
abbrev pub IsSpelling : {V : Type 0} → (V → List (List ℕ) → Type 0) → V → List ℕ → Type 0
IsSpelling Spells v input = (lines : List (List ℕ)) × Spells v lines × (input ≡ ended lines)

-- no spelling begins another, an input spells at most one value, and a value has one spelling
pub record IsUnambiguous {V : Type 0} (Spells : V → List (List ℕ) → Type 0) : Type 0 where
  pub none_begins_another : (v w : V) (input more : List ℕ) → IsSpelling Spells v input → IsSpelling Spells w (input ++ more) → more ≡ []
  pub one_value : (v w : V) (input : List ℕ) → IsSpelling Spells v input → IsSpelling Spells w input → v ≡ w
  pub one_spelling : (v : V) (a b : List ℕ) → IsSpelling Spells v a → IsSpelling Spells v b → a ≡ b

-- some text begins with these lines
abbrev pub Begins : {V : Type 0} → (V → List (List ℕ) → Type 0) → List (List ℕ) → Type 0
Begins {V} Spells front = (v : V) × (more : List (List ℕ)) × Spells v (front ++ more)

-- The input spells nothing. k is the least number, below the number of the input's lines, such that no text begins with
-- the first k of them; if there is none, k is the number of the lines.
pub record IsRefusalLine {V : Type 0} (Spells : V → List (List ℕ) → Type 0) (input : List ℕ) (k : ℕ) : Type 0 where
  pub spells_nothing : (v : V) → IsSpelling Spells v input → ⊥
  pub within : (0 < k) × (k ≤ length (lines_of input))
  pub earlier : (j : ℕ) → j < k → Begins Spells (take j (lines_of input))
  pub stops : k < length (lines_of input) → Begins Spells (take k (lines_of input)) → ⊥

-- a line has no LF
abbrev pub IsLine : List ℕ → Type 0
IsLine line = AllByRecursion (λ b. b ≢ 10) line

-- the bytes are this line, its LF, and what follows them
pub record IsCut (bytes line after : List ℕ) : Type 0 where
  pub parts : bytes ≡ line ++ 10 ∷ after
  pub plain : IsLine line

-- the input is refused at a line that it ends, so every longer input is refused there too
pub record IsRefusedEarly {V : Type 0} (Spells : V → List (List ℕ) → Type 0) (input : List ℕ) (k : ℕ) : Type 0 where
  pub line : IsRefusalLine Spells input k
  pub early : k < length (lines_of input)

-- this many lines at the front of the bytes were appended to the old ones
pub record TakesLines (old new : List (List ℕ)) (bytes rest : List ℕ) (count : ℕ) : Type 0 where
  pub taken : List (List ℕ)
  pub parts : bytes ≡ ended taken ++ rest
  pub grown : new ≡ old ++ taken
  pub counted : length taken ≡ count
