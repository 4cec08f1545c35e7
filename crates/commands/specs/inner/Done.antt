-- What was done for what was asked.
use Rattle.std.specs.Prelude.{◌≡◌, ◌≢◌, ◌<◌, ℕ, List, Option, None, IfSome}
use Rattle.std.specs.Global.{Vec}
use Rattle.std.specs.Io.KnownBytes.{Keeps}
use Rattle.clap.specs.Words.{Text}
use Rattle.command_words.specs.declared.requests.Lacking.{Lacking}
use Rattle.command_words.specs.declared.requests.Lists.{Lists}
use Rattle.command_words.specs.declared.requests.Request.{Request}
use Rattle.text_access.specs.Names.{Files}
use Rattle.text_access.specs.Written.{BothGain, Streams}
use Rattle.session_commands.specs.Texts.{WritesSession}
use Rattle.commands.specs.Told.{EndsAsked, EndsSeveral, HasLines, IsFaultTold, IsSettled, IsSettledList, bare_job}

-- the status is not that of misuse; above it the errors report a fault; and bytes were appended at most
abbrev pub IsEnded : Streams → Streams → ℕ → Type 0
IsEnded old new status = (status ≢ 2) × (2 < status → IsFaultTold old.1 new.1 status) × BothGain old new

-- What was asked for was done: a command on texts, the audit of several sessions, or the session of folders. If nothing
-- was, the two texts of the input were checked.
pub record IsDone (asked : Option (Request Text)) (several : Option (Lists × List Text)) (folders : Option (Lacking × List Text)) (files : Files) (HasSession : List ℕ → List ℕ → Type 0) (input : Option (List ℕ)) (before : Option (Vec ℕ)) (old new : Streams) (table : Option (Vec ℕ)) (status : ℕ) : Type 0 where
  pub told : IfSome asked (λ job. IsSettled (EndsAsked job files HasSession input old) new status)
  pub listed : IfSome several (λ asked. IsSettledList (EndsSeveral asked files HasSession old) new status)
  pub made : IfSome folders (λ asked. (status ≡ 0 → WritesSession files.names_in files.bytes_of asked.1 asked.0 old.0 new.0) × (status ≡ 1 → Keeps old.0 new.0))
  pub unasked : asked ≡ None → several ≡ None → folders ≡ None → IsSettled (EndsAsked bare_job files HasSession input old) new status
  pub lines : status ≡ 0 → IfSome asked (λ job. HasLines job files HasSession input old.0 new.0 before table)
  pub unlined : asked ≡ None → table ≡ before
  pub kept : status ≢ 0 → table ≡ before
  pub ended : IsEnded old new status
