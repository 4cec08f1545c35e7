-- The answers to several texts, in order.
use Rattle.std.specs.Prelude.{◌≡◌, ◌⊎◌, ◌<◌, ℕ, ◌+◌, List, [], ◌∷◌, ◌++◌, Option, Some, None, IfSome, MatchOption, codes, length, map, take, ◌==◌, if◌then◌else◌, nat_lt}
use Rattle.std.specs.Fmt.{decimal}
use Rattle.std.specs.List.{AllByRecursion, concat}
use Rattle.std.specs.Io.KnownBytes.{Appends, Keeps}
use Rattle.command_texts.specs.declared.several.Listing.{Listing}
use Rattle.command_texts.specs.declared.several.Listing.TheVariants.{Named, Objects}
use Rattle.command_texts.specs.declared.why.Telling.TheVariants.{Short}
use Rattle.command_texts.specs.declared.answer.Fault.{Fault}
use Rattle.command_texts.specs.Answers.{IsListStop, file_lines}
use Rattle.command_texts.specs.Reasons.{IsNote, TellsWhy, place_of}
use Rattle.command_texts.specs.Shown.{quoted, shown}
use Rattle.command_texts.specs.Told.{IsNamed}
use Rattle.text_access.specs.Names.{Files}
use Rattle.text_access.specs.Written.{AppendsFront, BothGain, Gains, MayTell, Streams}

-- what the command says about a text: the answer with its status, and the line at which the text is refused, if it is
pub record Said : Type 0 where
  pub text : List ℕ
  pub answer : List ℕ
  pub status : ℕ
  pub line : Option ℕ

-- a name, and what the command says about its text, or `None` if the text could not be read to its end
pub record Entry : Type 0 where
  pub name : List ℕ
  pub said : Option Said

-- The name stands for this text. This is the answer to it, and the line at which it is refused. If the name is that of
-- the input, nothing is said about the bytes that the input held.
pub record IsSaid (files : Files) (HasSession : List ℕ → List ℕ → Type 0) (IsAnswer : List ℕ → List ℕ → ℕ → Type 0) (IsRefused : List ℕ → Option ℕ → Type 0) (name : List ℕ) (s : Said) : Type 0 where
  pub is_named : IsNamed name files HasSession None s.text
  pub is_answer : IsAnswer s.text s.answer s.status
  pub is_line : IsRefused s.text s.line

abbrev pub IsRight : Files → (List ℕ → List ℕ → Type 0) → (List ℕ → List ℕ → ℕ → Type 0) → (List ℕ → Option ℕ → Type 0) → Entry → Type 0
IsRight files HasSession IsAnswer IsRefused e = IfSome e.said (IsSaid files HasSession IsAnswer IsRefused e.name)

-- how answers are listed: after their names, with these words after the counts at the end, or as objects with the names
-- in them
abbrev pub Style : Type 0
Style = Option (List ℕ)

abbrev pub style_of : Listing → Style
style_of (Named sum) = Some sum.now
style_of Objects = None

-- an object with the name of its text before its other fields, as in {"file":"a","verdict":"clean"}
abbrev pub in_object : List ℕ → List ℕ → List ℕ
in_object name [] = []
in_object name (brace ∷ fields) = brace ∷ codes "\"file\":" ++ quoted name ++ 44 ∷ fields

-- an answer in a list: after its name, as in "a: clean", or an object with its name
abbrev pub listed_as : Style → List ℕ → List ℕ → List ℕ
listed_as (Some sum) name said = shown name ++ codes ": " ++ said
listed_as None name said = in_object name said

-- what the list has for an entry: nothing if the text was not read
abbrev pub listed_said : Style → List ℕ → Option Said → List ℕ
listed_said style name None = []
listed_said style name (Some s) = listed_as style name s.answer

abbrev pub listed : Style → Entry → List ℕ
listed style e = listed_said style e.name e.said

-- the status of an answer, or that of a text that was not read
abbrev pub said_status : Option Said → ℕ
said_status None = 3
said_status (Some s) = s.status

abbrev pub entry_status : Entry → ℕ
entry_status e = said_status e.said

-- how many answers have status 0
abbrev pub well : List Entry → ℕ
well [] = 0
well (e ∷ es) = (if entry_status e == 0 then 1 else 0) + well es

-- the greatest status, or 0 for no entries
abbrev pub greater : ℕ → ℕ → ℕ
greater a b = if nat_lt a b then b else a

abbrev pub worst : List Entry → ℕ
worst [] = 0
worst (e ∷ es) = greater (entry_status e) (worst es)

-- the end of the list: how many of how many answers have status 0, as in "2 of 3 sessions are clean", or nothing
abbrev pub list_end : Style → ℕ → ℕ → List ℕ
list_end (Some sum) well all = decimal well ++ codes " of " ++ decimal all ++ sum
list_end None well all = []

-- the list of answers
abbrev pub list_text : Style → List Entry → List ℕ
list_text style es = concat (map (listed style) es) ++ list_end style (well es) (length es)

-- why the text is refused, if it is, and then a note
pub record TellsSaid (HasNote : List ℕ → ℕ → List ℕ → Type 0) (name : List ℕ) (s : Said) (old new : Option (List ℕ)) : Type 0 where
  pub between : Option (List ℕ)
  pub why : TellsWhy Short (place_of name s.line) old between
  pub noted : MayTell (IsNote (HasNote s.text s.status) name) between new

-- words that say that a text was not read, and why
abbrev pub TellsUnread : List ℕ → Option (List ℕ) → Option (List ℕ) → Type 0
TellsUnread name old new = (why : List ℕ) × AppendsFront old new (file_lines name why)

abbrev pub TellsEntry : (List ℕ → ℕ → List ℕ → Type 0) → Entry → Option (List ℕ) → Option (List ℕ) → Type 0
TellsEntry HasNote e old new = MatchOption e.said (TellsUnread e.name old new) (λ s. TellsSaid HasNote e.name s old new)

-- what is told beside the answers to a list, about each entry in order
abbrev pub TellsEach : (List ℕ → ℕ → List ℕ → Type 0) → List Entry → Option (List ℕ) → Option (List ℕ) → Type 0
TellsEach HasNote [] old new = Keeps old new
TellsEach HasNote (e ∷ es) old new = (between : Option (List ℕ)) × TellsEntry HasNote e old between × TellsEach HasNote es between new

-- the text under a name is one of a list: its answer was written, with what goes beside it, and this is its status
pub record IsListed (files : Files) (HasSession : List ℕ → List ℕ → Type 0) (IsAnswer : List ℕ → List ℕ → ℕ → Type 0) (IsRefused : List ℕ → Option ℕ → Type 0) (HasNote : List ℕ → ℕ → List ℕ → Type 0) (style : Style) (name : List ℕ) (old new : Streams) (status : ℕ) : Type 0 where
  pub entry : Entry
  pub is_name : entry.name ≡ name
  pub is_right : IsRight files HasSession IsAnswer IsRefused entry
  pub written : Appends old.0 new.0 (listed style entry)
  pub beside : TellsEntry HasNote entry old.1 new.1
  pub is_status : status ≡ entry_status entry

-- The texts under these names are of a list. For each one, its answer was written, or the errors say that it was not
-- read. This many answers have status 0, and this is the greatest status.
pub record AreListed (files : Files) (HasSession : List ℕ → List ℕ → Type 0) (IsAnswer : List ℕ → List ℕ → ℕ → Type 0) (IsRefused : List ℕ → Option ℕ → Type 0) (HasNote : List ℕ → ℕ → List ℕ → Type 0) (style : Style) (names : List (List ℕ)) (old new : Streams) (count status : ℕ) : Type 0 where
  pub entries : List Entry
  pub are_names : map (λ e. e.name) entries ≡ names
  pub are_right : AllByRecursion (IsRight files HasSession IsAnswer IsRefused) entries
  pub written : Appends old.0 new.0 (concat (map (listed style) entries))
  pub beside : TellsEach HasNote entries old.1 new.1
  pub is_count : count ≡ well entries
  pub is_status : status ≡ worst entries

-- The answers to the texts under these names were written, with how many have status 0. Beside them, the errors say why
-- texts are refused, which texts were not read, and the notes. The status is the greatest of all.
pub record TellsSeveral (files : Files) (HasSession : List ℕ → List ℕ → Type 0) (IsAnswer : List ℕ → List ℕ → ℕ → Type 0) (IsRefused : List ℕ → Option ℕ → Type 0) (HasNote : List ℕ → ℕ → List ℕ → Type 0) (style : Style) (names : List (List ℕ)) (old new : Streams) (status : ℕ) : Type 0 where
  pub entries : List Entry
  pub are_names : map (λ e. e.name) entries ≡ names
  pub are_right : AllByRecursion (IsRight files HasSession IsAnswer IsRefused) entries
  pub written : Appends old.0 new.0 (list_text style entries)
  pub beside : TellsEach HasNote entries old.1 new.1
  pub is_status : status ≡ worst entries

-- the first of the names were handled, and then the output could not be written, or memory ran out
pub record StopsSeveral (files : Files) (HasSession : List ℕ → List ℕ → Type 0) (IsAnswer : List ℕ → List ℕ → ℕ → Type 0) (IsRefused : List ℕ → Option ℕ → Type 0) (HasNote : List ℕ → ℕ → List ℕ → Type 0) (style : Style) (names : List (List ℕ)) (old new : Streams) (fault : Fault) : Type 0 where
  pub is_stop : IsListStop fault
  pub dealt : ℕ
  pub count : ℕ
  pub status : ℕ
  pub between : Streams
  pub listed : AreListed files HasSession IsAnswer IsRefused HasNote style (take dealt names) old between count status
  pub gains : BothGain between new

-- the status of a list: below 2 if each text was read, and 3 if one was not
abbrev pub IsListStatus : ℕ → Type 0
IsListStatus status = (status < 2) ⊎ (status ≡ 3)

-- the errors say that one text was not read, and why
pub record TellsOneUnread (old new : Option (List ℕ)) : Type 0 where
  pub name : List ℕ
  pub before : Option (List ℕ)
  pub behind : Option (List ℕ)
  pub gained : Gains old before
  pub told : TellsUnread name before behind
  pub more : Gains behind new
