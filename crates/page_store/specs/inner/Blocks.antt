-- Blocks of values that may be other than 0.
use Rattle.std.specs.Prelude.{◌≡◌, ℕ, ◌+◌, ◌*◌, ◌<◌, ◌≤◌, Bool, false, List, length, slice_index, slice_index_or}

-- the number of values that share a mark
abbrev pub block : ℕ
block = 64

-- there are marks for all values, and the values of a block without its mark are 0
pub record AreTouched (values : List ℕ) (marks : List Bool) : Type 0 where
  pub count : length values < block * length marks
  pub zero : (b i : ℕ) → block * b ≤ i → i < block * b + block → slice_index_or marks b false ≡ false → slice_index values i ≡ 0

-- the values are 0 from one place up to another, and as before elsewhere
pub record IsCleared (from to : ℕ) (old new : List ℕ) : Type 0 where
  pub len : length new ≡ length old
  pub inside : (i : ℕ) → from ≤ i → i < to → slice_index new i ≡ 0
  pub before : (i : ℕ) → i < from → slice_index new i ≡ slice_index old i
  pub past : (i : ℕ) → to ≤ i → slice_index new i ≡ slice_index old i
