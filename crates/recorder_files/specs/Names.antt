-- The name of a recorder's file, PARTY.PROCESS.NUMBER: the party, digits for the process that wrote it, and the digits of
-- its own number among the files of that process; and the name that it gets as somebody compresses it.
use Rattle.std.specs.Prelude.{◌≡◌, ◌⊎◌, ℕ, Bool, true, ◌&&◌, nat_le, List, ◌∷◌, ◌++◌, codes, length}
use Rattle.std.specs.List.{list_all}
use Rattle.recorder_files.specs.Files.{party_word}
use Rattle.recorder_files.specs.declared.lines.Party.{Party}

abbrev pub is_digit : ℕ → Bool
is_digit b = nat_le 48 b && nat_le b 57

-- one or more digits
abbrev pub are_digits : List ℕ → Bool
are_digits bytes = nat_le 1 (length bytes) && list_all is_digit bytes

abbrev pub AreDigits : List ℕ → Type 0
AreDigits bytes = are_digits bytes ≡ true

-- with a dot (46) between its parts
abbrev pub file_name : Party → List ℕ → List ℕ → List ℕ
file_name party process number = party_word party ++ 46 ∷ (process ++ 46 ∷ number)

-- this is the name of a file of the party's recorders
abbrev pub IsNameOf : Party → List ℕ → Type 0
IsNameOf party name = (process number : List ℕ) × AreDigits process × AreDigits number × (name ≡ file_name party process number)

-- what a program that compresses a file adds to its name
abbrev pub IsEnding : List ℕ → Type 0
IsEnding ending = (ending ≡ codes ".bz2") ⊎ ((ending ≡ codes ".gz") ⊎ ((ending ≡ codes ".lz4") ⊎ ((ending ≡ codes ".lzma") ⊎ ((ending ≡ codes ".xz") ⊎ (ending ≡ codes ".zst")))))

-- a file with the name `whole` gets this name as it is compressed
abbrev pub IsCompressedName : List ℕ → List ℕ → Type 0
IsCompressedName whole name = (ending : List ℕ) × IsEnding ending × (name ≡ whole ++ ending)
