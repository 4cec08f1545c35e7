-- A text on the way to its name.
use Rattle.std.specs.Prelude.{◌≡◌, ℕ, List, [], ◌∷◌, ◌++◌, Option, Some, None, option_map}
use Rattle.std.specs.Borrow.{Bor}

-- texts, each with its name
abbrev pub Named : Type 0
Named = List (List ℕ × List ℕ)

-- a name, if there is one
abbrev pub name_of : Option (Bor (List ℕ)) → Option (List ℕ)
name_of name = option_map (λ given. given.now) name

-- a draft with these bytes behind its text
abbrev pub with_more : List ℕ → List ℕ × List ℕ → List ℕ × List ℕ
with_more bytes draft = (draft.0, draft.1 ++ bytes)

-- a text gets this name, if there is one
abbrev pub under : Option (List ℕ) → List ℕ → Named
under None text = []
under (Some name) text = (name, text) ∷ []

-- the front of a text, if that is in a draft
abbrev pub front_of : {D : Type 0} → (D → List ℕ × List ℕ) → Option D → List ℕ
front_of draft_of None = []
front_of draft_of (Some draft) = (draft_of draft).1

-- the name that a text gets: its draft's, if there is one
abbrev pub name_with : {D : Type 0} → (D → List ℕ × List ℕ) → Option D → Option (List ℕ) → Option (List ℕ)
name_with draft_of None name = name
name_with draft_of (Some draft) name = Some (draft_of draft).0

-- a text that is to get this name is what its draft has, if there is one, and then what is held
abbrev pub IsSaved : {D : Type 0} → (D → List ℕ × List ℕ) → Option (List ℕ) → Option D → List ℕ → List ℕ → Type 0
IsSaved draft_of name draft held text = (name_with draft_of draft name ≡ name) × (text ≡ front_of draft_of draft ++ held)

-- what gets its name when a text ends: what is written in place
abbrev pub at_end : {D : Type 0} → Option D → Named → Named
at_end None texts = texts
at_end (Some draft) texts = []

-- what gets its name when a draft is kept
abbrev pub at_keep : {D : Type 0} → Option D → Named → Named
at_keep None texts = []
at_keep (Some draft) texts = texts
