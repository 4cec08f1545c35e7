-- The answers to the texts under names.
use Rattle.std.specs.Prelude.{◌≡◌, ◌⊎◌, ℕ, Bool, true, false, List, Option, Some, None, Result, IfSome, MatchResult, codes, if◌then◌else◌, ◌&&◌}
use Rattle.std.specs.Str.{bytes_eq}
use Rattle.std.specs.Io.KnownBytes.{Appends, Keeps}
use Rattle.command_texts.specs.declared.answer.Fault.{Fault}
use Rattle.command_texts.specs.declared.answer.Fault.TheVariants.{Output}
use Rattle.command_texts.specs.Cutting.{IsCutAtEnd}
use Rattle.command_texts.specs.Limits.{IsWithin}
use Rattle.text_access.specs.Names.{Files}
use Rattle.text_access.specs.Written.{AppendsFront, Streams}

-- whether the name is that of the input
abbrev pub is_dash : List ℕ → Bool
is_dash name = bytes_eq name (codes "-")

-- the bytes that a name stands for, if they are known
abbrev pub bytes_under : List ℕ → Files → Option (List ℕ) → Option (List ℕ)
bytes_under name files input = if is_dash name then input else files.bytes_of name

-- these bytes were read: they are within the limit, and they are the known ones, if those are known
pub record AreRead (known : Option (List ℕ)) (bytes : List ℕ) : Type 0 where
  pub few : IsWithin bytes
  pub whole : IfSome known (λ xs. bytes ≡ xs)

-- What was opened under a name: it has the bytes that are known of the name; and the name is no folder's, or it has the
-- session of this text.
pub record IsOpened (name : List ℕ) (files : Files) (HasSession : List ℕ → List ℕ → Type 0) (remaining : Option (List ℕ)) : Type 0 where
  pub bytes : IfSome (files.bytes_of name) (λ xs. remaining ≡ Some xs)
  pub named : (files.names_in name ≡ None) ⊎ ((text : List ℕ) × HasSession name text × (remaining ≡ Some text))

-- no name has a session
abbrev pub NoSession : List ℕ → List ℕ → Type 0
NoSession name text = ⊥

-- this text was read under a name, which is the input's or no folder's
pub record IsReadAt (name : List ℕ) (files : Files) (input : Option (List ℕ)) (text : List ℕ) : Type 0 where
  pub read : AreRead (bytes_under name files input) text
  pub no_folder : is_dash name ≡ false → files.names_in name ≡ None

-- the text that a name stands for: it was read; or the name is not the input's, and it has the session of this text
abbrev pub IsNamed : List ℕ → Files → (List ℕ → List ℕ → Type 0) → Option (List ℕ) → List ℕ → Type 0
IsNamed name files HasSession input text = IsReadAt name files input text ⊎ ((is_dash name ≡ false) × HasSession name text)

-- the two texts of an input
pub record AreOfInput (input : Option (List ℕ)) (texts : List ℕ × List ℕ) : Type 0 where
  pub bytes : List ℕ
  pub are_read : AreRead input bytes
  pub are_cut : IsCutAtEnd bytes texts.0 texts.1

abbrev pub AreTextsBy : Bool → (List ℕ → Type 0) → (List ℕ → Type 0) → Option (List ℕ) → List ℕ × List ℕ → Type 0
AreTextsBy true IsFirst IsSecond input texts = AreOfInput input texts
AreTextsBy false IsFirst IsSecond input texts = IsFirst texts.0 × IsSecond texts.1

-- The two texts that two names stand for. If both names are the input's, the input holds both texts. The first name may
-- have a session, and the second one too.
abbrev pub AreNamed : List ℕ → List ℕ → Files → (List ℕ → List ℕ → Type 0) → (List ℕ → List ℕ → Type 0) → Option (List ℕ) → List ℕ × List ℕ → Type 0
AreNamed first second files HasFirst HasSecond input texts =
    AreTextsBy (is_dash first && is_dash second) (IsNamed first files HasFirst input) (IsNamed second files HasSecond input) input texts

-- the answer's text was appended to the output, and the status is the answer's
pub record TellsOf (IsAnswer : List ℕ → ℕ → Type 0) (old new : Option (List ℕ)) (status : ℕ) : Type 0 where
  pub text : List ℕ
  pub is_answer : IsAnswer text status
  pub written : Appends old new text

-- the answer to such texts was written, and what this relation gives for its status was written beside it
pub record Tells {T : Type 0} (AreTexts : T → Type 0) (IsAnswerTo : T → List ℕ → ℕ → Type 0) (IsBeside : T → ℕ → Option (List ℕ) → Option (List ℕ) → Type 0) (old new : Streams) (status : ℕ) : Type 0 where
  pub texts : T
  pub are_texts : AreTexts texts
  pub told : TellsOf (IsAnswerTo texts) old.0 new.0 status
  pub beside : IsBeside texts status old.1 new.1

-- part of the answer to such texts was appended to the output: all of it up to some byte
pub record CutsShort {T : Type 0} (AreTexts : T → Type 0) (IsAnswerTo : T → List ℕ → ℕ → Type 0) (old new : Option (List ℕ)) : Type 0 where
  pub texts : T
  pub are_texts : AreTexts texts
  pub text : List ℕ
  pub status : ℕ
  pub is_answer : IsAnswerTo texts text status
  pub written : AppendsFront old new text

-- what a fault leaves of the output: a failure of the output itself cuts the answer short, and any other fault leaves
-- it as it was
abbrev pub IsLeft : Fault → Type 0 → Type 0 → Type 0
IsLeft (Output name why) IsCut Stays = IsCut
IsLeft other IsCut Stays = Stays

-- it failed with such a fault, and nothing was written beside the answer
pub record Fails {T : Type 0} (IsFault : Fault → Type 0) (AreTexts : T → Type 0) (IsAnswerTo : T → List ℕ → ℕ → Type 0) (old new : Streams) (fault : Fault) : Type 0 where
  pub is_fault : IsFault fault
  pub output : IsLeft fault (CutsShort AreTexts IsAnswerTo old.0 new.0) (Keeps old.0 new.0)
  pub errors : Keeps old.1 new.1

-- the answer to such texts was written, or it failed with such a fault
abbrev pub Ends : {T : Type 0} → (Fault → Type 0) → (T → Type 0) → (T → List ℕ → ℕ → Type 0) → (T → ℕ → Option (List ℕ) → Option (List ℕ) → Type 0) → Streams → Streams → Result ℕ Fault → Type 0
Ends IsFault AreTexts IsAnswerTo IsBeside old new done =
    MatchResult done (Tells AreTexts IsAnswerTo IsBeside old new) (Fails IsFault AreTexts IsAnswerTo old new)
