-- What the program did for its words, and what became of the answer.
use Rattle.std.specs.Prelude.{◌≡◌, ◌≢◌, ◌<◌, ◌≤◌, ℕ, List, [], Option, Some, None, IfSome, length, option_map}
use Rattle.std.specs.Global.{Vec}
use Rattle.std.specs.Io.KnownBytes.{Keeps}
use Rattle.clap.specs.Words.{Text}
use Rattle.command_words.specs.declared.requests.Request.{Request}
use Rattle.command_words.specs.declared.requests.Targets.{Targets}
use Rattle.command_words.specs.Readings.{AreTargets}
use Rattle.command_words.specs.Words.{AreAccepted, AreRefused, IsKindFor, asked, error_kinds, folders_asked, several_asked, target_names}
use Rattle.text_access.specs.Names.{Files}
use Rattle.text_access.specs.Written.{BothGain, Streams}
use Rattle.session_commands.specs.Texts.{WritesSession}
use Rattle.commands.specs.Folders.{SessionIn}
use Rattle.commands.specs.Puts.{IsOneNamed, IsPut, Places, name_at, under_if}
use Rattle.commands.specs.Saving.{under}
use Rattle.commands.specs.Refused.{IsRefusedBy}
use Rattle.commands.specs.Shown.{AsksFor}
use Rattle.commands.specs.Told.{EndsAsked, EndsSeveral, HasLines, IsFaultTold, IsSettled, IsSettledList, bare_job}

-- The program did what these words ask for, or refused them: what the output and the errors gained, the table of a
-- window's lines, which was there before if there was one, and the status.
pub record IsRun (words : List Text) (files : Files) (HasSession : List ℕ → List ℕ → Type 0) (input : Option (List ℕ)) (before : Option (Vec ℕ)) (old new : Streams) (table : Option (Vec ℕ)) (status : ℕ) : Type 0 where
  pub told : (job : Request Text) → AsksFor words job → IsSettled (EndsAsked job files HasSession input old) new status
  pub several : error_kinds words ≡ [] → IfSome (several_asked words) (λ asked. IsSettledList (EndsSeveral asked files HasSession old) new status)
  pub folders : error_kinds words ≡ [] → IfSome (folders_asked words) (λ asked. (status ≡ 0 → WritesSession files.names_in files.bytes_of asked.1 asked.0 old.0 new.0) × (status ≡ 1 → Keeps old.0 new.0))
  pub unasked : AreAccepted words → asked words ≡ None → several_asked words ≡ None → folders_asked words ≡ None → IsSettled (EndsAsked bare_job files HasSession input old) new status
  pub refused : AreRefused words → IsRefusedBy (IsKindFor words) old new status
  pub misuse : status ≡ 2 → AreRefused words × Keeps old.0 new.0
  pub fault : 2 < status → IsFaultTold old.1 new.1 status
  pub gains : BothGain old new
  pub lines : (job : Request Text) → AsksFor words job → status ≡ 0 → HasLines job files HasSession input old.0 new.0 before table
  pub unlined : asked words ≡ None → table ≡ before
  pub kept : status ≢ 0 → table ≡ before

-- over a disk, folders stand in the place of sessions
abbrev pub IsRunOver : List Text → Files → Option (List ℕ) → Option (Vec ℕ) → Streams → Streams → Option (Vec ℕ) → ℕ → Type 0
IsRunOver words files = IsRun words files (SessionIn files)

-- the files are those that the words name for what is written; words that are refused name none, nor does the program's
-- own name alone
pub record AreFiles (words : List Text) (targets : Targets) : Type 0 where
  pub accepted : AreAccepted words → AreTargets words targets
  pub bare : length words ≤ 1 → target_names targets ≡ (None, None)
  pub refused : AreRefused words → target_names targets ≡ (None, None)

-- An answer and perhaps a table were made like this, and are to go to such files. A status below 3 is that of the
-- answer, and both were put where they go. Otherwise one of them got its name at most.
pub record IsMadeAndPut (IsMade : Streams → Option (Vec ℕ) → ℕ → Type 0) (AreTheirs : Targets → Type 0) (old new : Places) (errors : Option (List ℕ)) (result : ℕ) : Type 0 where
  pub targets : Targets
  pub are_theirs : AreTheirs targets
  pub answer : List ℕ
  pub table : Option (Vec ℕ)
  pub status : ℕ
  pub behind : Option (List ℕ)
  pub made : IsMade (Some answer, behind) table status
  pub put : result < 3 → (result ≡ status) × (errors ≡ behind) × IsPut targets.answer status (target_names targets) answer (option_map (λ table. table.items) table) old new
  pub left : 2 < result → IsOneNamed (under (name_at targets.answer status (target_names targets).1) answer) (under_if (name_at targets.answer status (target_names targets).0) (option_map (λ table. table.items) table)) old.0 new.0
