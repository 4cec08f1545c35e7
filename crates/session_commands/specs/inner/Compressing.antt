-- The files of recorders that are only there compressed, as they are found, name by name and folder by folder.
use Rattle.std.specs.Prelude.{◌≡◌, ◌⊎◌, ◌↔◌, ℕ, List, Option, Some}
use Rattle.std.specs.List.{Contains}
use Rattle.session_commands.specs.Found.{IsCompressed, path_in}

-- The paths of those with these names in a folder are added, where the folder has `names`.
pub record AddsCompressed (names : List (List ℕ)) (IsOne : List ℕ → Type 0) (folder : List ℕ) (old new : List (List ℕ)) : Type 0 where
  pub kept : (path : List ℕ) → Contains old path → Contains new path
  pub more : (path : List ℕ) → Contains new path → Contains old path ⊎ ((name : List ℕ) × IsOne name × IsCompressed names name × (path ≡ path_in folder name))
  pub all : (name : List ℕ) → IsOne name → IsCompressed names name → Contains new (path_in folder name)

-- the paths of those in a folder are added
pub record AddsCompressedOf (known : Option (List (List ℕ))) (folder : List ℕ) (old new : List (List ℕ)) : Type 0 where
  pub names : List (List ℕ)
  pub is_known : (listing : List (List ℕ)) → known ≡ Some listing → (name : List ℕ) → Contains listing name ↔ Contains names name
  pub adds : AddsCompressed names (Contains names) folder old new
