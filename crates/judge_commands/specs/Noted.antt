-- The notes on a session that is clean: about which little could be judged, or to which pages never came.
use Rattle.std.specs.Prelude.{◌≡◌, ◌≢◌, ◌⊎◌, ℕ, List, [], ◌++◌, Bool, Option, Some, None, ◌==◌, if◌then◌else◌}
use Rattle.std.specs.Fmt.{decimal}
use Rattle.text_lines.specs.Text.{IsSpelling}
use Rattle.migration_types.specs.Sessions.{Recorded}
use Rattle.session_log.specs.Grammar.{SpellsSession}
use Rattle.completeness.specs.Complete.{Lacks}
use Rattle.completeness.specs.declared.lack.Extent.{Extent}
use Rattle.completeness.specs.declared.lack.Lack.{Lack}
use Rattle.completeness.specs.Left.{left_pages}
use Rattle.completeness.specs.Uses.{tells_use}
use Rattle.judge_commands.specs.declared.noting.TheConstants.{INCOMPLETE, LEFT, LEFT_STATUS, NOR_A_USE, NO_USE}

-- that so many owed pages never came, before more words
abbrev pub left_words : ℕ → List ℕ → List ℕ
left_words count behind = LEFT.now ++ decimal count ++ LEFT_STATUS.now ++ behind

-- the words of the note on a session, by whether it tells of a use and how many owed pages never came
abbrev pub note_words : Bool → ℕ → Option (List ℕ)
note_words used left =
    if left == 0
    then (if used then None else Some NO_USE.now)
    else Some (left_words left (if used then [] else NOR_A_USE.now))

abbrev pub note_on : Recorded → Option (List ℕ)
note_on s = note_words (tells_use s) (left_pages s)

-- these are the words beside the answer that says what a session lacks of what it must tell
pub record IsReasonOn (complete : Option Extent) (session : List ℕ) (status : ℕ) (words : List ℕ) : Type 0 where
  pub is_refused : status ≢ 0
  pub extent : Extent
  pub is_asked : complete ≡ Some extent
  pub recorded : Recorded
  pub is_spelled : IsSpelling SpellsSession recorded session
  pub lacking : Lack
  pub lacks : Lacks extent recorded lacking
  pub are_words : words ≡ INCOMPLETE.now

-- these are the words of the note on the session of this text, for an answer with this status
pub record IsNoteOn (session : List ℕ) (status : ℕ) (words : List ℕ) : Type 0 where
  pub is_well : status ≡ 0
  pub recorded : Recorded
  pub is_spelled : IsSpelling SpellsSession recorded session
  pub are_words : note_on recorded ≡ Some words

-- these are the words beside an answer to what is asked about a session: a note, or why it is not complete to this extent
abbrev pub IsBeside : Option Extent → List ℕ → ℕ → List ℕ → Type 0
IsBeside complete session status words = IsNoteOn session status words ⊎ IsReasonOn complete session status words
