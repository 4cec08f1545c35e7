-- The least of some numbers. Any of them may be missing.
use Rattle.std.specs.Prelude.{ℕ, ◌<◌, ◌≤◌, min, List, Option, Some, None, MatchOption}
use Rattle.recorder_files.specs.Gathered.{Has}

abbrev pub lower_of : Option ℕ → Option ℕ → Option ℕ
lower_of None other = other
lower_of (Some a) None = Some a
lower_of (Some a) (Some b) = Some (min a b)

-- the least of the first numbers, this many
abbrev pub IsLeastOf : List (Option ℕ) → ℕ → Option ℕ → Type 0
IsLeastOf numbers count least = MatchOption least ((j m : ℕ) → j < count → Has numbers j m → ⊥) (λ n. ((i : ℕ) × Has numbers i n) × ((j m : ℕ) → j < count → Has numbers j m → n ≤ m))
