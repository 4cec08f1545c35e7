-- The files of recorders, as they are found, folder by folder, and as each is surveyed.
use Rattle.std.specs.Prelude.{◌≡◌, ◌⊎◌, ◌↔◌, ℕ, List, [], ◌∷◌, ◌++◌, Option, Some, None, MatchOption, map, string_bytes}
use Rattle.std.specs.List.{Contains}
use Rattle.recorder_files.specs.Said.{Says}
use Rattle.recorder_files.specs.declared.lines.Party.{Party}
use Rattle.recorder_files.specs.Names.{IsNameOf}
use Rattle.recorder_files.specs.Surveys.{IsSurveyOf}
use Rattle.recorder_files.specs.declared.surveying.Surveyed.{Surveyed}
use Rattle.session_commands.specs.Logs.{log_of}
use Rattle.session_commands.specs.Found.{IsSurveyed, path_in, told_of}
use Rattle.session_commands.specs.declared.found.FoundFile.{FoundFile}
use Rattle.session_commands.specs.declared.found.FoundLog.{FoundLog}
use Rattle.session_commands.specs.declared.found.FoundLogs.{FoundLogs}
use Rattle.session_commands.specs.declared.surveys.Recording.{Recording}

-- The files of these names in a folder are added.
pub record AddsNames (IsOne : List ℕ → Type 0) (folder : List ℕ) (old new : List FoundFile) : Type 0 where
  pub kept : (told : Party × List ℕ) → Contains (map told_of old) told → Contains (map told_of new) told
  pub more : (party : Party) (path : List ℕ) → Contains (map told_of new) (party, path) → Contains (map told_of old) (party, path) ⊎ ((name : List ℕ) × IsOne name × IsNameOf party name × (path ≡ path_in folder name))
  pub all : (party : Party) (name : List ℕ) → IsOne name → IsNameOf party name → Contains (map told_of new) (party, path_in folder name)

-- the files of what is in a folder are added
pub record AddsFolder (known : Option (List (List ℕ))) (folder : List ℕ) (old new : List FoundFile) : Type 0 where
  pub names : List (List ℕ)
  pub is_known : (listing : List (List ℕ)) → known ≡ Some listing → (name : List ℕ) → Contains listing name ↔ Contains names name
  pub adds : AddsNames (Contains names) folder old new

-- ---- as they are surveyed

-- a log of no files
pub record IsNothing (log : FoundLog) : Type 0 where
  pub paths : log.paths.items ≡ []
  pub surveyed : log.surveyed.items ≡ []
  pub headless : log.headless.items ≡ []
  pub names : log.names.items ≡ []

-- a party's file with these bytes, if they are known, ends within its head, or this was surveyed of it, in the recording of this name
abbrev pub IsReadAs : Party → Option (List ℕ) → List ℕ → Option Surveyed → Type 0
IsReadAs party known recording found = MatchOption found (Says party known None) (IsSurveyOf party known recording)

-- the recording has this name, if a file of it was read
abbrev pub HasName : Option Recording → List ℕ → Type 0
HasName None name = Unit {0}
HasName (Some recording) name = recording.name.items ≡ name

-- the name that it has afterwards is the one that it had, and this is so under it
abbrev pub Under : Option Recording → Option Recording → (List ℕ → Type 0) → Type 0
Under old new Is = (name : List ℕ) → HasName new name → HasName old name × Is name

-- a log gets a file, and is surveyed as before
pub record GetsFile (bytes_of : List ℕ → Option (List ℕ)) (recording : List ℕ) (party : Party) (path : List ℕ) (old new : FoundLog) : Type 0 where
  pub names : map string_bytes new.names.items ≡ map string_bytes old.names.items ++ path ∷ []
  pub surveyed : IsSurveyed bytes_of recording party old → IsSurveyed bytes_of recording party new

-- the log of its party gets the file, and no other log
pub record TakesFile (bytes_of : List ℕ → Option (List ℕ)) (recording : List ℕ) (file : FoundFile) (old new : FoundLogs) : Type 0 where
  pub gets : GetsFile bytes_of recording file.party (string_bytes file.path) (log_of old file.party) (log_of new file.party)
  pub others : (party : Party) → (party ≡ file.party → ⊥) → log_of new party ≡ log_of old party

-- the logs of the files that were surveyed
pub record AreLogsOf (bytes_of : List ℕ → Option (List ℕ)) (recording : List ℕ) (files : List FoundFile) (logs : FoundLogs) : Type 0 where
  pub files_of : (party : Party) (path : List ℕ) → Contains (map string_bytes (log_of logs party).names.items) path ↔ Contains (map told_of files) (party, path)
  pub surveyed : (party : Party) → IsSurveyed bytes_of recording party (log_of logs party)
