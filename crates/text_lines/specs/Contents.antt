-- A page's contents as text: sixteen lower-case hexadecimal digits for each cell.
use Rattle.std.specs.Prelude.{ℕ, ◌+◌, ◌*◌, ◌%◌, nat_lt, if◌then◌else◌, List, [], ◌∷◌}
use Rattle.std.specs.List.{flat_map}
use Rattle.std.specs.Int.{w64, to_be_bytes}
use Rattle.hex.specs.Hex.{encode_lower}

-- the text of a cell's value
abbrev pub cell_text : ℕ → List ℕ
cell_text x = encode_lower (to_be_bytes w64 x)

-- the text of a page's content, cell 0 first
abbrev pub contents_text : List ℕ → List ℕ
contents_text cells = flat_map cell_text cells

-- the number of a lower-case hexadecimal digit, and 255 for another byte
abbrev pub digit_number : ℕ → ℕ
digit_number b =
    if nat_lt ((b + 208) % 256) 10 then (b + 208) % 256
    else if nat_lt ((b + 159) % 256) 6 then ((b + 159) % 256 + 10) % 256
    else 255

-- each pair of numbers as one number in a base, which is a byte
abbrev pub pairs_in : ℕ → List ℕ → List ℕ
pairs_in base [] = []
pairs_in base (high ∷ []) = []
pairs_in base (high ∷ low ∷ rest) = (high * base % 256 + low) % 256 ∷ pairs_in base rest
