-- What a taker takes from an input.
use Rattle.std.specs.Prelude.{◌≡◌, ℕ, ◌+◌, ◌≤◌, Bool, true, List, ◌++◌, Option, IfSome, length, take}
use Rattle.std.specs.Io.KnownBytes.{Consumes, IsAtEnd}

-- the taker took these bytes: at most this many, and all of the known ones, if those are known
pub record TakesAll {T : Type 0} (Came : T → List ℕ → Type 0) (most : ℕ) (known : Option (List ℕ)) (old new : T) : Type 0 where
  pub bytes : List ℕ
  pub few : length bytes ≤ most
  pub whole : IfSome known (λ xs. bytes ≡ xs)
  pub taken : (before : List ℕ) → Came old before → Came new (before ++ bytes)

-- this many bytes were read to the front of the buffer, and nothing is left if the input ended
pub record Fills (old new : Option (List ℕ)) (buffer : List ℕ) (count : ℕ) (ended : Bool) : Type 0 where
  pub within : count ≤ length buffer
  pub consumed : Consumes old new (take count buffer)
  pub at_end : ended ≡ true → IsAtEnd new

-- the taker took these bytes, and this many of the allowed bytes are left; the known bytes begin with them, if those
-- are known
pub record Takes {T : Type 0} (Came : T → List ℕ → Type 0) (most left : ℕ) (known rest : Option (List ℕ)) (old new : T) : Type 0 where
  pub bytes : List ℕ
  pub within : length bytes + left ≡ most
  pub consumed : Consumes known rest bytes
  pub taken : (before : List ℕ) → Came old before → Came new (before ++ bytes)
