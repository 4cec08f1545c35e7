-- The names of texts.
use Rattle.std.specs.Prelude.{ℕ, List, Option, map}
use Rattle.std.specs.Borrow.{Bor}

-- the names that references point to
abbrev pub names_of : List (Bor (List ℕ)) → List (List ℕ)
names_of names = map (λ name. name.now) names

-- what is known of files: the bytes that each name stands for, and the names in each folder
pub record Files : Type 0 where
  pub bytes_of : List ℕ → Option (List ℕ)
  pub names_in : List ℕ → Option (List (List ℕ))

abbrev pub files_of : (List ℕ → Option (List ℕ)) → (List ℕ → Option (List (List ℕ))) → Files
files_of bytes_of names_in = record { bytes_of = bytes_of; names_in = names_in }
