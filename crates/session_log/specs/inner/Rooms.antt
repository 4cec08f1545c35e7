-- A text that is written in pieces.
use Rattle.std.specs.Prelude.{◌≡◌, ℕ, List, ◌++◌, Option}
use Rattle.std.specs.Io.KnownBytes.{Appends}

-- a front of the text was written, and these bytes are the rest
abbrev pub AreBehind : Option (List ℕ) → Option (List ℕ) → List ℕ → List ℕ → Type 0
AreBehind old new held text = (front : List ℕ) × Appends old new front × (text ≡ front ++ held)
