-- The answer of the call that says why a text is refused.
use Rattle.std.specs.Prelude.{◌≡◌, ◌≢◌, ◌≤◌, ◌⊎◌, ℕ, List, length}
use Rattle.text_lines.specs.declared.FaultKind.{FaultKind}
use Rattle.text_lines.specs.declared.FaultKind.TheVariants.{Memory}
use Rattle.text_lines.specs.Text.{IsLine, IsSpelling, IsRefusalLine}
use Rattle.session_log.specs.Grammar.{SpellsSession}
use Rattle.cert_text.specs.Grammar.{SpellsCert}
use Rattle.cert_text.specs.Order.{SpellsOrder}
use Rattle.postcopy_c.specs.declared.refusals.PostcopyRefusal.{PostcopyRefusal}
use Rattle.postcopy_c.specs.Answers.{IsPut}

-- an answer without words
abbrev pub no_words : ℕ → PostcopyRefusal
no_words kind = record { kind = kind; line = 0; column = 0; text_len = 0 }

-- the number for a text that is not refused
abbrev pub read_number : ℕ
read_number = 16

-- a text is refused as one of this kind, and words about it, in one line, are in the room if they fit
pub record TellsRefusal (kind : ℕ) (before after : List ℕ) (answer : PostcopyRefusal) : Type 0 where
  pub words : List ℕ
  pub in_line : IsLine words
  pub is_kind : answer.kind ≡ kind
  pub from_one : 1 ≤ answer.column
  pub whole_length : answer.text_len ≡ length words
  pub is_put : IsPut words before after

-- the answer is the kind alone, and the room stays as it was
pub record TellsKind (kind : ℕ) (before after : List ℕ) (answer : PostcopyRefusal) : Type 0 where
  pub is_kind : answer ≡ no_words kind
  pub stays : after ≡ before

-- the fault at this line, or memory ran out
abbrev pub IsToldOf : ℕ → ℕ → FaultKind → List ℕ → List ℕ → PostcopyRefusal → Type 0
IsToldOf kind line fault before after answer =
    ((fault ≢ Memory) × (answer.line ≡ line) × TellsRefusal kind before after answer) ⊎ TellsKind 11 before after answer

-- the text is refused at the line of the answer
pub record IsRefused {V : Type 0} (Spells : V → List (List ℕ) → Type 0) (kind : ℕ) (text before after : List ℕ) (answer : PostcopyRefusal) : Type 0 where
  pub is_line : IsRefusalLine Spells text answer.line
  pub tells : TellsRefusal kind before after answer

-- the text is not refused
pub record IsReadWhole {V : Type 0} (Spells : V → List (List ℕ) → Type 0) (text before after : List ℕ) (answer : PostcopyRefusal) : Type 0 where
  pub value : V
  pub spells : IsSpelling Spells value text
  pub tells : TellsKind read_number before after answer

-- the text is refused at the line of the answer, or is not refused, or memory ran out
abbrev pub IsWhyOf : {V : Type 0} → (V → List (List ℕ) → Type 0) → ℕ → List ℕ → List ℕ → List ℕ → PostcopyRefusal → Type 0
IsWhyOf Spells kind text before after answer =
    IsRefused Spells kind text before after answer ⊎ IsReadWhole Spells text before after answer ⊎ TellsKind 11 before after answer

-- what is answered about a text of the kind with this number: a session, a certificate, or an order; any other number is
-- unknown
pub record IsWhy (kind : ℕ) (text before after : List ℕ) (answer : PostcopyRefusal) : Type 0 where
  pub session : kind ≡ 3 → IsWhyOf SpellsSession kind text before after answer
  pub certificate : kind ≡ 4 → IsWhyOf SpellsCert kind text before after answer
  pub order : kind ≡ 13 → IsWhyOf SpellsOrder kind text before after answer
  pub none : kind ≢ 3 → kind ≢ 4 → kind ≢ 13 → TellsKind 0 before after answer
