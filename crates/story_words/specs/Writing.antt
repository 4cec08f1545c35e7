-- Putting sentences into words, in order.
use Rattle.std.specs.Prelude.{◌≡◌, ℕ, List, [], ◌∷◌, ◌++◌}
use Rattle.story_words.specs.declared.sentences.Sentence.{Sentence}

-- what was there stays the beginning
abbrev pub IsBehind : List ℕ → List ℕ → Type 0
IsBehind old new = (words : List ℕ) × (new ≡ old ++ words)

-- this appends some words, for which the property holds
abbrev pub Adds : (List ℕ → Type 0) → List ℕ → List ℕ → Type 0
Adds P old new = (words : List ℕ) × P words × (new ≡ old ++ words)

-- the words of these sentences: those of the first, and then those of the others
abbrev pub AreWritten : (Sentence → List ℕ → Type 0) → List Sentence → List ℕ → Type 0
AreWritten IsWritten [] words = words ≡ []
AreWritten IsWritten (sentence ∷ sentences) words =
    (first : List ℕ) × (others : List ℕ) × IsWritten sentence first × AreWritten IsWritten sentences others × (words ≡ first ++ others)

-- words that end their line
abbrev pub IsLine : List ℕ → Type 0
IsLine words = (line : List ℕ) × (words ≡ line ++ (10 ∷ []))
