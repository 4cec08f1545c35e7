-- An input that holds two texts. The first ends with the input's first line `end`.
use Rattle.std.specs.Prelude.{◌≡◌, ◌≢◌, ℕ, List, [], ◌∷◌, ◌++◌, ◌⊎◌, codes}
use Rattle.std.specs.List.{AllByRecursion}
use Rattle.text_lines.specs.Text.{ended, IsLine}

-- none of these lines is `end`
pub record HasNoEnd (lines : List (List ℕ)) : Type 0 where
  pub plain : AllByRecursion IsLine lines
  pub none : AllByRecursion (λ line. line ≢ codes "end") lines

-- the first text goes up to the first line `end`, which it includes, and the second text is the rest
pub record IsCutAtLine (input first second : List ℕ) : Type 0 where
  pub lines : List (List ℕ)
  pub before : HasNoEnd lines
  pub first_text : first ≡ ended (lines ++ codes "end" ∷ [])
  pub parts : input ≡ first ++ second

-- no ended line of the input is `end`: the first text is the whole input, and the second is empty
pub record IsUncut (input first second : List ℕ) : Type 0 where
  pub lines : List (List ℕ)
  pub unended : List ℕ
  pub whole : input ≡ ended lines ++ unended
  pub last : IsLine unended
  pub before : HasNoEnd lines
  pub first_text : first ≡ input
  pub second_text : second ≡ []

-- the two texts of an input
abbrev pub IsCutAtEnd : List ℕ → List ℕ → List ℕ → Type 0
IsCutAtEnd input first second = IsCutAtLine input first second ⊎ IsUncut input first second
