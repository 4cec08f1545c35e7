-- The greatest lengths of texts.
use Rattle.std.specs.Prelude.{◌≡◌, ℕ, ◌≤◌, ◌⊎◌, Bool, true, false, ◌&&◌, nat_le, List, [], ◌∷◌, ◌++◌, length, codes}

abbrev pub BeginsWith : List ℕ → List ℕ → Type 0
BeginsWith front text = (rest : List ℕ) × (text ≡ front ++ rest)

-- whether a text begins with a digit, as a table of lines does
abbrev pub is_digit : ℕ → Bool
is_digit code = nat_le 48 code && nat_le code 57

abbrev pub begins_with_digit : List ℕ → Bool
begins_with_digit [] = false
begins_with_digit (code ∷ text) = is_digit code

-- the text begins like a session or a certificate of the third version, like runs, like a report that has one of these
-- two after its first line, or like a table of lines
abbrev pub MayBeLong : List ℕ → Type 0
MayBeLong text = BeginsWith (codes "postcopy-session 3\n") text ⊎ BeginsWith (codes "postcopy-certificate 3\n") text ⊎ BeginsWith (codes "postcopy-runs 1\n") text ⊎ BeginsWith (codes "clean\npostcopy-certificate 3\n") text ⊎ BeginsWith (codes "faulty line ") text ⊎ (begins_with_digit text ≡ true)

-- the text is within its limit in bytes
abbrev pub IsWithin : List ℕ → Type 0
IsWithin text = (length text ≤ 268435456) ⊎ ((length text ≤ 17179869184) × MayBeLong text)
