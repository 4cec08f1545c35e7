-- The characters that are not shown as they are, and their escapes.
use Rattle.std.specs.Prelude.{ℕ, ◌+◌, ◌/◌, ◌%◌, List, [], ◌∷◌, ◌++◌, Bool, true, false, if◌then◌else◌, nat_lt}
use Rattle.ucd_category.specs.GeneralCategory.{general_category}
use Rattle.ucd_category.specs.declared.GeneralCategory.{GeneralCategory}
use Rattle.ucd_category.specs.declared.GeneralCategory.TheVariants.{LineSeparator, ParagraphSeparator, Control, Format, Surrogate, Unassigned}
use Rattle.refusal_words.specs.declared.hiding.Escape.{Escape}
use Rattle.refusal_words.specs.declared.hiding.Escape.TheVariants.{One, Two}

-- the categories of the characters that are not printed, or that may change how others are
abbrev pub hides : GeneralCategory → Bool
hides Control = true
hides Format = true
hides LineSeparator = true
hides ParagraphSeparator = true
hides Surrogate = true
hides Unassigned = true
hides other = false

abbrev pub is_hidden : ℕ → Bool
is_hidden c = hides (general_category c)

-- the hexadecimal digit for a number below 16
abbrev pub hex_digit : ℕ → ℕ
hex_digit n = if nat_lt n 10 then 48 + n else 87 + n

-- a unit of UTF-16, as a string of JSON has its escape: \u202e
abbrev pub escaped_unit : ℕ → List ℕ
escaped_unit n = 92 ∷ 117 ∷ hex_digit (n / 4096) ∷ hex_digit (n / 256 % 16) ∷ hex_digit (n / 16 % 16) ∷ hex_digit (n % 16) ∷ []

-- the escape of a character: of its unit, or of both of its units
abbrev pub escape : ℕ → List ℕ
escape c = if nat_lt c 65536 then escaped_unit c else escaped_unit (55232 + c / 1024) ++ escaped_unit (56320 + c % 1024)

abbrev pub bytes_of : Escape → List ℕ
bytes_of (One unit) = unit
bytes_of (Two first second) = first ++ second
