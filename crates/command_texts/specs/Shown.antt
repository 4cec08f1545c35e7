-- How the name of a text is shown.
use Rattle.std.specs.Prelude.{ℕ, List, [], ◌∷◌, ◌++◌, Bool, true, false, not, codes, ◌==◌, ◌||◌, ◌&&◌, if◌then◌else◌}
use Rattle.std.specs.Char.{encode_utf8}
use Rattle.std.specs.Str.{chars}
use Rattle.refusal_words.specs.Hidden.{escape, is_hidden}

-- a character between quotation marks, as JSON has it: one that is not shown as it is by its escape
abbrev pub escaped : ℕ → List ℕ
escaped c =
    if is_hidden c then escape c else
    if c == 34 || c == 92 then 92 ∷ c ∷ [] else
    encode_utf8 c

abbrev pub escapes : List ℕ → List ℕ
escapes [] = []
escapes (c ∷ cs) = escaped c ++ escapes cs

-- a name between quotation marks, as a JSON string
abbrev pub quoted : List ℕ → List ℕ
quoted name = 34 ∷ escapes (chars name) ++ 34 ∷ []

-- whether each of these characters is shown as it is
abbrev pub are_printed : List ℕ → Bool
are_printed [] = true
are_printed (c ∷ cs) = if is_hidden c then false else are_printed cs

-- whether a name begins with a quotation mark
abbrev pub begins_quoted : List ℕ → Bool
begins_quoted [] = false
begins_quoted (b ∷ bs) = b == 34

-- whether each character of a name is shown as it is, and the first is no quotation mark
abbrev pub is_plain : List ℕ → Bool
is_plain name = are_printed (chars name) && not (begins_quoted name)

-- a name as shown: between quotation marks, unless it is plain
abbrev pub shown : List ℕ → List ℕ
shown name = if is_plain name then name else quoted name

-- a line that begins with a name, followed by words about what the name stands for
abbrev pub line_on : List ℕ → List ℕ → List ℕ
line_on name words = shown name ++ (codes ": " ++ (words ++ codes "\n"))
