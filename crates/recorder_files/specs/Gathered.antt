-- The records of a log, gathered from several files by their numbers.
use Rattle.std.specs.Prelude.{◌≡◌, ◌≢◌, ℕ, zero, suc, ◌<◌, ◌≤◌, List, [], ◌∷◌, Option, Some, None, slice_get, map}
use Rattle.std.specs.List.{flat_map}
use Rattle.std.specs.List.Sorted.{IsPermutation}
use Rattle.recorder_files.specs.declared.turns.Turn.{Turn}
use Rattle.recorder_files.specs.declared.turns.Turn.TheVariants.{Of, Twice, Missing, End}

-- records, each with its number
abbrev pub Numbered : Type 0 → Type 0
Numbered X = List (ℕ × X)

-- a log's records, numbered from here on
abbrev pub numbered_from : {X : Type 0} → ℕ → List X → Numbered X
numbered_from n [] = []
numbered_from n (x ∷ log) = (n, x) ∷ numbered_from (suc n) log

-- all records of the files
abbrev pub all_of : {X : Type 0} → List (Numbered X) → Numbered X
all_of files = flat_map (λ file. file) files

-- Each record of the log is in the files once, with its place in the log as its number. No number is missing, and none
-- occurs twice.
abbrev pub IsGathered : {X : Type 0} → List (Numbered X) → List X → Type 0
IsGathered files log = IsPermutation (all_of files) (numbered_from 0 log)

-- the first record of a file, if it has one
abbrev pub first_of : {X : Type 0} → Numbered X → Option (ℕ × X)
first_of [] = None
first_of (r ∷ file) = Some r

-- the number of such a record
abbrev pub number_of : {X : Type 0} → Option (ℕ × X) → Option ℕ
number_of None = None
number_of (Some r) = Some r.0

abbrev pub heads : {X : Type 0} → List (Numbered X) → List (Option ℕ)
heads files = map (λ file. number_of (first_of file)) files

-- a file without its first record
abbrev pub behind_first : {X : Type 0} → Numbered X → Numbered X
behind_first [] = []
behind_first (r ∷ file) = file

abbrev pub taken_from : {X : Type 0} → ℕ → List (Numbered X) → List (Numbered X)
taken_from i [] = []
taken_from zero (file ∷ files) = behind_first file ∷ files
taken_from (suc i) (file ∷ files) = file ∷ taken_from i files

-- the first record of a file has this number
abbrev pub Has : List (Option ℕ) → ℕ → ℕ → Type 0
Has numbers i n = slice_get numbers i ≡ Some (Some n)

-- The file whose turn it is, given the number that is wanted and the number of each file's first record: the only file
-- that has the wanted number. Otherwise two files have it; or none has it, and this is the least number that a file
-- has; or no file has a record.
abbrev pub IsTurn : List (Option ℕ) → ℕ → Turn → Type 0
IsTurn numbers wanted (Of i) = Has numbers i wanted × ((j : ℕ) → Has numbers j wanted → j ≡ i)
IsTurn numbers wanted (Twice i j) = (i < j) × Has numbers i wanted × Has numbers j wanted
IsTurn numbers wanted (Missing n) = (n ≢ wanted) × ((i : ℕ) × Has numbers i n) × ((j m : ℕ) → Has numbers j m → n ≤ m)
IsTurn numbers wanted End = (j m : ℕ) → Has numbers j m → ⊥

-- the files take turns and give this log, from a number on
abbrev pub Gives : {X : Type 0} → ℕ → List (Numbered X) → List X → Type 0
Gives n files [] = IsTurn (heads files) n End
Gives {X} n files (x ∷ log) = (i : ℕ) × IsTurn (heads files) n (Of i) × ((file : Numbered X) × (slice_get files i ≡ Some ((n, x) ∷ file))) × Gives (suc n) (taken_from i files) log
