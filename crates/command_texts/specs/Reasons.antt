-- Why a text is refused: the words beside the answer.
use Rattle.std.specs.Prelude.{◌≡◌, ℕ, List, [], Option, Some, None, option_map}
use Rattle.std.specs.Option.{option_or}
use Rattle.std.specs.Io.KnownBytes.{Keeps}
use Rattle.text_lines.specs.Text.{IsRefusalLine, IsSpelling}
use Rattle.text_lines.specs.declared.wanted.Refusal.{Refusal}
use Rattle.refusal_words.specs.Placed.{AddsPlaced, AddsPlacedFirst}
use Rattle.command_texts.specs.declared.why.Telling.{Telling}
use Rattle.command_texts.specs.declared.why.Telling.TheVariants.{Short, Full, Fields}
use Rattle.command_texts.specs.declared.why.Why.{Why}
use Rattle.command_texts.specs.Shown.{line_on, shown}
use Rattle.text_access.specs.Written.{MayTell}

-- the line at which a text is refused, or `None` if it is a spelling
abbrev pub IsRefusedAt : {V : Type 0} → (V → List (List ℕ) → Type 0) → List ℕ → Option ℕ → Type 0
IsRefusedAt {V} Spells text None = (v : V) × IsSpelling Spells v text
IsRefusedAt Spells text (Some line) = IsRefusalLine Spells text line

-- the refusal of the first of two texts, or else that of the second
pub record IsFirstRefused (IsOneRefused IsOtherRefused : List ℕ → Option ℕ → Type 0) (texts : List ℕ × List ℕ) (line : Option ℕ) : Type 0 where
  pub one : Option ℕ
  pub other : Option ℕ
  pub is_one : IsOneRefused texts.0 one
  pub is_other : IsOtherRefused texts.1 other
  pub first : line ≡ option_or one other

-- the line of a refusal
abbrev pub line_of : Option Refusal → Option ℕ
line_of refusal = option_map (λ r. r.fault.line) refusal

-- a text's name, and the line at which it is refused
abbrev pub Place : Type 0
Place = List ℕ × ℕ

abbrev pub place_of : List ℕ → Option ℕ → Option Place
place_of name line = option_map (λ n. (name, n)) line

-- the place in the first of two texts, or else the place in the second
abbrev pub first_place : List ℕ → List ℕ → Option ℕ → Option ℕ → Option Place
first_place first second one other = option_or (place_of first one) (place_of second other)

abbrev pub told_place : Why → Place
told_place why = (why.name.now, why.refused.line)

-- why the text under a name is refused, or `None` if it is not
abbrev pub IsWhy : (List ℕ → Option ℕ → Type 0) → List ℕ → List ℕ → Option Why → Type 0
IsWhy IsRefused name text why = (line : Option ℕ) × IsRefused text line × (option_map told_place why ≡ place_of name line)

-- Words on why a text is refused. Their first line begins with the text's name as shown and the line number. In full,
-- more lines follow it.
abbrev pub AreReasons : Telling → Place → List ℕ → Type 0
AreReasons Short place words = AddsPlaced (shown place.0) place.1 [] words
AreReasons Full place words = AddsPlacedFirst (shown place.0) place.1 [] words
AreReasons Fields place words = AddsPlaced (shown place.0) place.1 [] words

-- Words on why a text is refused, if one is. The output may fail before all of them are written, or before any is.
abbrev pub TellsWhy : Telling → Option Place → Option (List ℕ) → Option (List ℕ) → Type 0
TellsWhy telling None old new = Keeps old new
TellsWhy telling (Some place) old new = MayTell (AreReasons telling place) old new

-- a line with such words about the text under a name
pub record IsNote (AreWords : List ℕ → Type 0) (name line : List ℕ) : Type 0 where
  pub words : List ℕ
  pub are_words : AreWords words
  pub is_line : line ≡ line_on name words

-- beside the answer to the text under a name: why the text is refused, then a note
pub record TellsWhyOf (IsRefused : List ℕ → Option ℕ → Type 0) (HasNote : List ℕ → ℕ → List ℕ → Type 0) (telling : Telling) (name text : List ℕ) (status : ℕ) (old new : Option (List ℕ)) : Type 0 where
  pub line : Option ℕ
  pub is_line : IsRefused text line
  pub between : Option (List ℕ)
  pub told : TellsWhy telling (place_of name line) old between
  pub noted : MayTell (IsNote (HasNote text status) name) between new

-- beside the answer to two texts under their names: why the first is refused, or else the second; then more words on
-- the answer, which show the second name; and then a note on the first
pub record TellsBeside (IsFirstRefused IsSecondRefused : List ℕ → Option ℕ → Type 0) (AddsMore : List ℕ × List ℕ → List ℕ → List ℕ → List ℕ → Type 0) (HasNote : List ℕ × List ℕ → ℕ → List ℕ → Type 0) (first second : List ℕ) (texts : List ℕ × List ℕ) (status : ℕ) (old new : Option (List ℕ)) : Type 0 where
  pub one : Option ℕ
  pub other : Option ℕ
  pub is_one : IsFirstRefused texts.0 one
  pub is_other : IsSecondRefused texts.1 other
  pub between : Option (List ℕ)
  pub behind : Option (List ℕ)
  pub why : TellsWhy Short (first_place first second one other) old between
  pub more : MayTell (AddsMore texts (shown second) []) between behind
  pub noted : MayTell (IsNote (HasNote texts status) first) behind new
