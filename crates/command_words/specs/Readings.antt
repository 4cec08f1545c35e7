-- What is found in the words of a command line.
use Rattle.std.specs.Prelude.{◌≡◌, ◌<◌, ◌≤◌, List, [], Option, None, Result, MatchResult, false, length, option_and_then}
use Rattle.clap.specs.Words.{Row, Text, kind_of, subcommand_of}
use Rattle.clap.specs.declared.error.Error.{Error}
use Rattle.command_words.specs.declared.requests.Invocation.{Invocation}
use Rattle.command_words.specs.declared.requests.Intent.{Intent}
use Rattle.command_words.specs.declared.requests.Targets.{Targets}
use Rattle.command_words.specs.Table.{folders_of, job_of, several_of}
use Rattle.command_words.specs.Words.{IsKindFor, answer_kind, asked, asked_in, clash_in, error_kinds, folders_asked, folders_in, postcopy_words, several_asked, several_in, target_names, targets_in}

-- this is what the words ask for
pub record IsAsked (words : List Text) (intent : Option Intent) : Type 0 where
  pub job : option_and_then job_of intent ≡ asked words
  pub several : option_and_then several_of intent ≡ several_asked words
  pub folders : option_and_then folders_of intent ≡ folders_asked words

-- the files are those that a command and its arguments name for what is written, and the kind is that of its answer
pub record AreTargetsIn (given : Option (Text × List Row)) (targets : Targets) : Type 0 where
  pub names : target_names targets ≡ targets_in given
  pub answer : targets.answer ≡ answer_kind (option_and_then asked_in given) (option_and_then folders_in given)

-- this is what a command and its arguments ask for, and the options do not clash
pub record IsFoundIn (given : Option (Text × List Row)) (found : Invocation) : Type 0 where
  pub job : option_and_then job_of found.intent ≡ option_and_then asked_in given
  pub several : option_and_then several_of found.intent ≡ option_and_then several_in given
  pub folders : option_and_then folders_of found.intent ≡ option_and_then folders_in given
  pub alike : clash_in given ≡ false
  pub targets : AreTargetsIn given found.targets

-- the files are those that the words name
abbrev pub AreTargets : List Text → Targets → Type 0
AreTargets words = AreTargetsIn (subcommand_of postcopy_words words)

-- this is found in the words; fewer than two words ask for nothing, and the command line accepts any others
pub record IsFound (words : List Text) (found : Invocation) : Type 0 where
  pub asks : IsFoundIn (subcommand_of postcopy_words words) found
  pub bare : length words ≤ 1 → found.intent ≡ None
  pub accepted : 1 < length words → error_kinds words ≡ []

-- the words, two or more, are refused with this error
pub record IsRefused (words : List Text) (error : Error) : Type 0 where
  pub more : 1 < length words
  pub kind : IsKindFor words (kind_of error)

-- the result of reading the words
abbrev pub IsRead : List Text → Result Invocation Error → Type 0
IsRead words found = MatchResult found (IsFound words) (IsRefused words)
