-- What is shown of a folder of a disk whose files are known.
use Rattle.std.specs.Prelude.{◌≡◌, ℕ, false, List, [], ◌∷◌, Option, Some, IfSome}
use Rattle.std.specs.List.{AllByRecursion}
use Rattle.clap.specs.Words.{Text}
use Rattle.command_words.specs.declared.requests.Checks.{Checks}
use Rattle.command_words.specs.declared.requests.Explains.{Explains}
use Rattle.command_words.specs.declared.requests.Lacking.TheVariants.{Refused}
use Rattle.command_words.specs.declared.requests.OneText.{OneText}
use Rattle.command_words.specs.declared.requests.Request.TheVariants.{One, Two}
use Rattle.command_words.specs.declared.requests.TwoTexts.TheVariants.{Check, Explain}
use Rattle.command_words.specs.Words.{error_kinds, several_asked}
use Rattle.command_texts.specs.Told.{IsNamed, NoSession, is_dash}
use Rattle.judged_texts.specs.Checked.{HeadlineHolds}
use Rattle.text_access.specs.Names.{Files}
use Rattle.session_commands.specs.Files.{LosesNothing}
use Rattle.session_commands.specs.Texts.{IsSessionText}
use Rattle.commands.specs.Shown.{AsksFor, CarriesHeadlines, SpellsMigrated}

-- the text of the session that a folder stands for
abbrev pub SessionIn : Files → List ℕ → List ℕ → Type 0
SessionIn files folder text = IsSessionText files.names_in files.bytes_of (folder ∷ []) Refused text

-- the name is that of a folder, and not the input's
pub record IsFolder (files : Files) (name : List ℕ) : Type 0 where
  pub names : List (List ℕ)
  pub has : files.names_in name ≡ Some names
  pub no_input : is_dash name ≡ false

-- The files that recorders left in the folder make a recording. This is the text of its session, nothing of the files is
-- lost in it, and this holds of it.
pub record IsWholeWith (files : Files) (folder : List ℕ) (Holds : List ℕ → Type 0) : Type 0 where
  pub text : List ℕ
  pub is_text : SessionIn files folder text
  pub whole : LosesNothing is_text.is.chosen
  pub holds : Holds text

-- What status 0 shows over a disk: what it shows of any texts, with folders in the place of sessions; and if a session is
-- a folder, that nothing of its files is lost.
pub record ShowsFolders (words : List Text) (files : Files) (input : Option (List ℕ)) : Type 0 where
  pub headlines : CarriesHeadlines words files (SessionIn files) input
  pub checked : (folder cert : List ℕ) (checks : Checks) → IsFolder files folder → AsksFor words (Two (Check checks) folder cert) → (text : List ℕ) × IsNamed cert files NoSession input text × IsWholeWith files folder (λ session. HeadlineHolds session text)
  pub clean : (folder : List ℕ) (task : OneText) → IsFolder files folder → AsksFor words (One task folder) → IsWholeWith files folder SpellsMigrated
  pub lined : (folder second : List ℕ) (explains : Explains) → IsFolder files folder → AsksFor words (Two (Explain explains) folder second) → IsWholeWith files folder SpellsMigrated
  pub each : error_kinds words ≡ [] → IfSome (several_asked words) (λ asked. AllByRecursion (λ name. IsFolder files name → IsWholeWith files name SpellsMigrated) asked.1)
