-- The result of cutting a window out of a recording.
use Rattle.std.specs.Prelude.{◌≡◌, ◌⊎◌, ℕ, List, [], ◌∷◌, Option, Some, None, Result, codes}
use Rattle.std.specs.Io.KnownBytes.{Appends}
use Rattle.migration_types.specs.Sessions.{Recorded}
use Rattle.text_lines.specs.Text.{IsRefusalLine, IsSpelling, ended}
use Rattle.session_grammar.specs.Grammar.{SpellsSession, session_lines}
use Rattle.recordings.specs.declared.machine.WideMachine.{WideMachine}
use Rattle.recordings.specs.declared.wide.WideInit.{WideInit}
use Rattle.recorder_files.specs.declared.fronts.Front.{Front}
use Rattle.walked_sessions.specs.Walks.{IsRecordingOf}
use Rattle.windows.specs.Tables.{table_text}
use Rattle.windows.specs.Cuts.{IsCutOf, IsOutside}
use Rattle.windows.specs.declared.pages.Window.{Window}
use Rattle.windows.specs.declared.session.WindowText.{WindowText}
use Rattle.command_texts.specs.declared.answer.Fault.{Fault}
use Rattle.command_texts.specs.declared.why.Telling.TheVariants.{Short}
use Rattle.command_texts.specs.Answers.{IsAnswer, IsTextFault, numbered}
use Rattle.command_texts.specs.Reasons.{TellsWhyOf}
use Rattle.command_texts.specs.Told.{Ends, IsNamed}
use Rattle.text_access.specs.Names.{Files}
use Rattle.text_access.specs.Written.{Gains, Streams}
use Rattle.session_commands.specs.Files.{IsChosen, LosesNothing, bytes_in}
use Rattle.session_commands.specs.Found.{AreCompressed, IsFoundIn}
use Rattle.session_commands.specs.declared.found.FoundLogs.{FoundLogs}
use Rattle.session_commands.specs.declared.windowing.Windowed.{Windowed}
use Rattle.session_commands.specs.declared.windowing.Windowed.TheVariants.{SessionText, NoSuchPages, Seen}

-- ---- the recording

-- The files of these logs make this recording, and nothing of what the recorders wrote is lost.
pub record IsMadeOf (files : List ℕ → Option (List ℕ)) (logs : FoundLogs) (s : Recorded) : Type 0 where
  pub machine : WideMachine
  pub init : List WideInit
  pub front : Front
  pub chosen : IsChosen files logs machine init front
  pub whole : LosesNothing chosen
  pub made : IsRecordingOf machine init (bytes_in files logs) s

-- So do the files of recorders in these folders, none of which is only there compressed.
pub record IsMadeIn (names_in : List ℕ → Option (List (List ℕ))) (files : List ℕ → Option (List ℕ)) (folders : List (List ℕ)) (s : Recorded) : Type 0 where
  pub logs : FoundLogs
  pub found : IsFoundIn names_in files folders logs
  pub all : AreCompressed names_in folders []
  pub is : IsMadeOf files logs s

-- the folder of this name has a recording of this text
abbrev pub HasRecording : Files → List ℕ → List ℕ → Type 0
HasRecording files name text = (s : Recorded) × IsMadeIn files.names_in files.bytes_of (name ∷ []) s × (text ≡ ended (session_lines s))

-- the text that a name stands for: that of a session, or that of the recording in the folder of this name
abbrev pub IsInput : List ℕ → Files → (List ℕ → List ℕ → Type 0) → Option (List ℕ) → List ℕ → Type 0
IsInput name files HasSession = IsNamed name files (λ n text. HasSession n text ⊎ HasRecording files n text)

-- the text is that of this session; or of this recording, which the files in the folder of this name make
abbrev pub IsUnder : List ℕ → Files → List ℕ → Recorded → Type 0
IsUnder name files text s = IsSpelling SpellsSession s text ⊎ (IsMadeIn files.names_in files.bytes_of (name ∷ []) s × (text ≡ ended (session_lines s)))

-- the line at which the text is refused, or `None` if it is that of a session or of a recording
abbrev pub IsRefusedUnder : List ℕ → Files → List ℕ → Option ℕ → Type 0
IsRefusedUnder name files text None = (s : Recorded) × IsUnder name files text s
IsRefusedUnder name files text (Some line) = IsRefusalLine SpellsSession text line

-- ---- the answer

-- the result for the text under a name
abbrev pub IsWindowed : Window → List ℕ → Files → List ℕ → Windowed → Type 0
IsWindowed w name files text (SessionText line) = IsRefusalLine SpellsSession text line
IsWindowed w name files text NoSuchPages = IsOutside (IsUnder name files text) w
IsWindowed w name files text (Seen cut) = IsCutOf (IsUnder name files text) w cut

abbrev pub windowed_text : Windowed → List ℕ
windowed_text (SessionText line) = numbered (codes "session-text line ") line
windowed_text NoSuchPages = codes "no-such-pages\n"
windowed_text (Seen cut) = cut.text.items

abbrev pub windowed_status : Windowed → ℕ
windowed_status (SessionText line) = 1
windowed_status NoSuchPages = 1
windowed_status (Seen cut) = 0

-- the answer of `window`
abbrev pub IsWindowAnswer : Window → List ℕ → Files → List ℕ → List ℕ → ℕ → Type 0
IsWindowAnswer w name files text = IsAnswer (IsWindowed w name files text) windowed_text windowed_status

-- why there is no window whose pages the machine does not have
abbrev pub outside_words : List ℕ
outside_words = codes "the window has no page, or one that the machine of this recording does not have"

-- these are the words for an answer with this status that says so
abbrev pub TellsOutside : Window → List ℕ → Files → List ℕ → ℕ → List ℕ → Type 0
TellsOutside w name files text status words = IsWindowAnswer w name files text (windowed_text NoSuchPages) status × (words ≡ outside_words)

-- beside it, it is told why the text under this name is refused, or why there is no window, if that is so
abbrev pub TellsRefused : Window → List ℕ → Files → List ℕ → ℕ → Option (List ℕ) → Option (List ℕ) → Type 0
TellsRefused w name files = TellsWhyOf (IsRefusedUnder name files) (TellsOutside w name files) Short name

-- It may be told what a folder lacks. Then the answer of `window` to what is under a name was written, or it failed with
-- a fault.
abbrev pub EndsWindow : Window → List ℕ → Files → (List ℕ → List ℕ → Type 0) → Option (List ℕ) → Streams → Streams → Result ℕ Fault → Type 0
EndsWindow w name files HasSession input old new done =
    (told : Option (List ℕ)) × Gains old.1 told × Ends (IsTextFault (λ n. n ≡ name)) (IsInput name files HasSession input) (IsWindowAnswer w name files) (TellsRefused w name files) (old.0, told) new done

-- the session of a window was appended to the output, and each of its lines is the line of the recording's text that this
-- table has for it
pub record HasWindowLines (w : Window) (name : List ℕ) (files : Files) (HasSession : List ℕ → List ℕ → Type 0) (input old new : Option (List ℕ)) (table : List ℕ) : Type 0 where
  pub text : List ℕ
  pub is_input : IsInput name files HasSession input text
  pub cut : WindowText
  pub is_cut : IsCutOf (IsUnder name files text) w cut
  pub written : Appends old new cut.text.items
  pub is_table : table ≡ table_text cut.lines.items
