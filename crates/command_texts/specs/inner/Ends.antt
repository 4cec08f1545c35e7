-- An input of two texts, while it is being read.
use Rattle.std.specs.Prelude.{◌≡◌, ◌≢◌, ℕ, Bool, true, false, List, [], ◌∷◌, ◌++◌, Option, Some, None, codes}
use Rattle.std.specs.Borrow.{Bor}
use Rattle.text_lines.specs.Text.{ended, IsLine}
use Rattle.command_texts.specs.Cutting.{HasNoEnd}

-- the start of a line lacks these characters of the line `end`, or `None` if it can no longer become that line
abbrev pub IsLacking : List ℕ → Option (Bor (List ℕ)) → Type 0
IsLacking start (Some lacking) = start ++ lacking.now ≡ codes "end"
IsLacking start None = (rest : List ℕ) → start ++ rest ≢ codes "end"

-- no ended line is `end`, and the last line lacks these characters of it
pub record NoEndYet (input : List ℕ) (lacking : Option (Bor (List ℕ))) : Type 0 where
  pub lines : List (List ℕ)
  pub unended : List ℕ
  pub whole : input ≡ ended lines ++ unended
  pub last : IsLine unended
  pub before : HasNoEnd lines
  pub lacks : IsLacking unended lacking

-- the last line is `end`, and no earlier line is
pub record EndsThere (text : List ℕ) : Type 0 where
  pub lines : List (List ℕ)
  pub before : HasNoEnd lines
  pub whole : text ≡ ended (lines ++ codes "end" ∷ [])

abbrev pub CutBy : Bool → Option (Bor (List ℕ)) → List ℕ → List ℕ → Type 0
CutBy true lacking first second = EndsThere first
CutBy false lacking first second = NoEndYet first lacking × (second ≡ [])

-- the two texts, as far as the input was read
pub record CameAs (First Second : List ℕ → Type 0) (ended : Bool) (lacking : Option (Bor (List ℕ))) (input : List ℕ) : Type 0 where
  pub first : List ℕ
  pub second : List ℕ
  pub parts : input ≡ first ++ second
  pub first_came : First first
  pub second_came : Second second
  pub cut : CutBy ended lacking first second
