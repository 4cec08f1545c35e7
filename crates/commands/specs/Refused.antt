-- The outcome for words that ask for the help or the version, or that are no command.
use Rattle.std.specs.Prelude.{◌≡◌, ◌≢◌, ◌<◌, ◌⊎◌, ℕ, List, length}
use Rattle.std.specs.Io.KnownBytes.{Appends, Keeps}
use Rattle.clap.specs.declared.error.kind.ErrorKind.{ErrorKind}
use Rattle.clap.specs.declared.error.kind.ErrorKind.TheVariants.{DisplayHelp, DisplayVersion}
use Rattle.command_texts.specs.declared.answer.Fault.{Fault}
use Rattle.command_texts.specs.declared.answer.Fault.TheVariants.{Memory}
use Rattle.command_texts.specs.Answers.{IsOutputFault, fault_line}
use Rattle.text_access.specs.Written.{AppendsFront, Gains, Streams}

-- the words ask for the help or the version
abbrev pub IsAsking : ErrorKind → Type 0
IsAsking kind = (kind ≡ DisplayHelp) ⊎ (kind ≡ DisplayVersion)

-- the words are no command: nothing is written to the output, and the errors say what is wrong
pub record IsMisuse (kind : ErrorKind) (old new : Streams) (status : ℕ) : Type 0 where
  pub no_help : kind ≢ DisplayHelp
  pub no_version : kind ≢ DisplayVersion
  pub is_status : status ≡ 2
  pub output : Keeps old.0 new.0
  pub errors : Gains old.1 new.1

-- the help or the version, which is not empty, was written to the output, and nothing to the errors
pub record IsShown (kind : ErrorKind) (old new : Streams) (status : ℕ) : Type 0 where
  pub asked : IsAsking kind
  pub is_status : status ≡ 0
  pub text : List ℕ
  pub is_some : 0 < length text
  pub output : Appends old.0 new.0 text
  pub errors : Keeps old.1 new.1

-- the help or the version was asked for and the output failed, which the errors report
pub record IsUnshown (kind : ErrorKind) (old new : Streams) (status : ℕ) : Type 0 where
  pub asked : IsAsking kind
  pub is_status : status ≡ 3
  pub output : Gains old.0 new.0
  pub fault : Fault
  pub is_fault : IsOutputFault fault
  pub errors : AppendsFront old.1 new.1 (fault_line fault)

-- memory ran out, which the errors report
pub record IsStarved (old new : Streams) (status : ℕ) : Type 0 where
  pub is_status : status ≡ 4
  pub output : Keeps old.0 new.0
  pub errors : AppendsFront old.1 new.1 (fault_line Memory)

-- the outcome for words with an error of this kind
abbrev pub IsRefusalOf : ErrorKind → Streams → Streams → ℕ → Type 0
IsRefusalOf kind old new status =
    IsMisuse kind old new status ⊎ (IsShown kind old new status ⊎ (IsUnshown kind old new status ⊎ IsStarved old new status))

-- the outcome for words with an error of a kind that they may have
pub record IsRefusedBy (IsKind : ErrorKind → Type 0) (old new : Streams) (status : ℕ) : Type 0 where
  pub kind : ErrorKind
  pub is_kind : IsKind kind
  pub outcome : IsRefusalOf kind old new status
