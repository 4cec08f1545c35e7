-- Objects that say why a text is refused.
use Rattle.std.specs.Prelude.{◌≡◌, ◌⊎◌, ℕ, Bool, true, List, ◌++◌, Option, codes, is_some}
use Rattle.command_texts.specs.declared.why.Telling.{Telling}
use Rattle.command_texts.specs.declared.why.Telling.TheVariants.{Short, Full, Fields}

-- the object has more fields before its closing brace
pub record HasMore (object told : List ℕ) : Type 0 where
  pub front : List ℕ
  pub more : List ℕ
  pub before : object ≡ front ++ codes "}\n"
  pub after : told ≡ (front ++ more) ++ codes "}\n"

-- or it has none
abbrev pub HasFields : List ℕ → List ℕ → Type 0
HasFields object told = (told ≡ object) ⊎ HasMore object told

-- how an answer is written, by how much is told of a refused text, and whether the text is refused
abbrev pub IsTold : Telling → Bool → List ℕ → List ℕ → Type 0
IsTold Fields true answer told = HasFields answer told
IsTold telling refused answer told = told ≡ answer

-- an answer to texts, as it is written: if one of them is refused, the object of the answer may have more fields
pub record IsObject {T : Type 0} (IsRefused : T → Option ℕ → Type 0) (IsAnswer : T → List ℕ → ℕ → Type 0) (texts : T) (told : List ℕ) (status : ℕ) : Type 0 where
  pub line : Option ℕ
  pub is_line : IsRefused texts line
  pub answer : List ℕ
  pub is_answer : IsAnswer texts answer status
  pub is_told : IsTold Fields (is_some line) answer told

-- an answer to texts, as it is written, by how much is told of a refused text
abbrev pub IsAnswerTold : {T : Type 0} → Telling → (T → Option ℕ → Type 0) → (T → List ℕ → ℕ → Type 0) → T → List ℕ → ℕ → Type 0
IsAnswerTold Short IsRefused IsAnswer = IsAnswer
IsAnswerTold Full IsRefused IsAnswer = IsAnswer
IsAnswerTold Fields IsRefused IsAnswer = IsObject IsRefused IsAnswer
