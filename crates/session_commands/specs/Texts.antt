-- The text of a session that is made of the files of recorders in folders.
use Rattle.std.specs.Prelude.{◌≡◌, ℕ, List, [], Option}
use Rattle.std.specs.Io.KnownBytes.{Appends}
use Rattle.migration_types.specs.Sessions.{Recorded}
use Rattle.text_lines.specs.Text.{IsSpelling}
use Rattle.session_grammar.specs.Grammar.{SpellsSession}
use Rattle.command_words.specs.declared.requests.Lacking.{Lacking}
use Rattle.command_words.specs.declared.requests.Lacking.TheVariants.{Refused}
use Rattle.session_commands.specs.Files.{IsTextOf}
use Rattle.session_commands.specs.Found.{AreCompressed, IsFoundIn}
use Rattle.session_commands.specs.declared.found.FoundLogs.{FoundLogs}

-- This is the text of the recording that the files of recorders in these folders make. No file is left out because it is only there
-- compressed, unless that may be.
pub record IsSessionText (names_in : List ℕ → Option (List (List ℕ))) (files : List ℕ → Option (List ℕ)) (folders : List (List ℕ)) (lacking : Lacking) (text : List ℕ) : Type 0 where
  pub logs : FoundLogs
  pub found : IsFoundIn names_in files folders logs
  pub whole : lacking ≡ Refused → AreCompressed names_in folders []
  pub is : IsTextOf files logs lacking text

-- such a text was appended
abbrev pub WritesSession : (List ℕ → Option (List (List ℕ))) → (List ℕ → Option (List ℕ)) → List (List ℕ) → Lacking → Option (List ℕ) → Option (List ℕ) → Type 0
WritesSession names_in files folders lacking old new = (text : List ℕ) × IsSessionText names_in files folders lacking text × Appends old new text

-- this session has such a text
abbrev pub HasText : (List ℕ → Type 0) → Recorded → Type 0
HasText IsText session = (text : List ℕ) × IsText text × IsSpelling SpellsSession session text
