-- What is written to an output that may fail before the end.
use Rattle.std.specs.Prelude.{◌≡◌, ◌<◌, List, ℕ, ◌++◌, ◌⊎◌, Option, length}
use Rattle.std.specs.Io.KnownBytes.{Appends, Keeps}

-- a front of these bytes was appended: all of them, or those before a failure
pub record AppendsFront (old new : Option (List ℕ)) (bytes : List ℕ) : Type 0 where
  pub front : List ℕ
  pub back : List ℕ
  pub parts : bytes ≡ front ++ back
  pub written : Appends old new front

-- a front of these bytes was appended, and not all of them
pub record AppendsPart (old new : Option (List ℕ)) (bytes : List ℕ) : Type 0 where
  pub written : AppendsFront old new bytes
  pub is_short : length written.front < length bytes

-- nothing, or a front of such words, was appended
abbrev pub MayTell : (List ℕ → Type 0) → Option (List ℕ) → Option (List ℕ) → Type 0
MayTell AreWords old new = Keeps old new ⊎ ((words : List ℕ) × AreWords words × AppendsFront old new words)

-- bytes were appended, or none were
abbrev pub Gains : Option (List ℕ) → Option (List ℕ) → Type 0
Gains old new = (more : List ℕ) × Appends old new more

-- the output and the standard error, with what they hold, as far as it is known
abbrev pub Streams : Type 0
Streams = Option (List ℕ) × Option (List ℕ)

-- bytes were appended to each of the two, or none were
abbrev pub BothGain : Streams → Streams → Type 0
BothGain old new = Gains old.0 new.0 × Gains old.1 new.1
