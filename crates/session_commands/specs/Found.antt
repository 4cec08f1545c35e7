-- The files of recorders in folders, and the logs that they are of.
use Rattle.std.specs.Prelude.{◌≡◌, ℕ, ◌-◌, ◌==◌, if◌then◌else◌, List, [], ◌∷◌, ◌++◌, Option, Some, None, IfSome, length, map, slice_get, string_bytes}
use Rattle.std.specs.List.{AllByRecursion, AllZip, Contains}
use Rattle.std.specs.List.Sorted.{IsPermutation}
use Rattle.recorder_files.specs.Said.{Says}
use Rattle.recorder_files.specs.declared.lines.Party.{Party}
use Rattle.recorder_files.specs.Names.{IsCompressedName, IsNameOf}
use Rattle.recorder_files.specs.Surveys.{IsSurveyOf}
use Rattle.session_commands.specs.Logs.{log_of}
use Rattle.session_commands.specs.declared.found.FoundFile.{FoundFile}
use Rattle.session_commands.specs.declared.found.FoundLog.{FoundLog}
use Rattle.session_commands.specs.declared.found.FoundLogs.{FoundLogs}

-- ---- files by their names

-- a slash (47), unless a name has no last byte, or this last one is a slash
abbrev pub slash_after : Option ℕ → List ℕ
slash_after None = []
slash_after (Some last) = if last == 47 then [] else (47 ∷ [])

-- what stands between the name of a folder and that of what is in it: a slash, unless the folder's is empty or ends in one
abbrev pub slash_behind : List ℕ → List ℕ
slash_behind folder = slash_after (slice_get folder (length folder - 1))

-- the path of what has this name in a folder
abbrev pub path_in : List ℕ → List ℕ → List ℕ
path_in folder name = (folder ++ slash_behind folder) ++ name

-- This is the path of a party's file in one of these folders. What is in a folder may be known.
pub record IsFileOf (names_in : List ℕ → Option (List (List ℕ))) (folders : List (List ℕ)) (party : Party) (path : List ℕ) : Type 0 where
  pub folder : List ℕ
  pub name : List ℕ
  pub named : Contains folders folder
  pub there : IfSome (names_in folder) (λ names. Contains names name)
  pub is_name : IsNameOf party name
  pub is : path ≡ path_in folder name

-- These are the paths of the party's files in the folders: each is one, and none is left out where it is known what is in a folder.
pub record AreFilesOf (names_in : List ℕ → Option (List (List ℕ))) (folders : List (List ℕ)) (party : Party) (paths : List (List ℕ)) : Type 0 where
  pub each : (path : List ℕ) → Contains paths path → IsFileOf names_in folders party path
  pub all : (folder name : List ℕ) (names : List (List ℕ)) → Contains folders folder → names_in folder ≡ Some names → Contains names name → IsNameOf party name → Contains paths (path_in folder name)

-- a file's party and its path
abbrev pub told_of : FoundFile → Party × List ℕ
told_of file = (file.party, string_bytes file.path)

-- These are the files in the folders: each is one, and none is left out where it is known what is in a folder.
pub record AreFound (names_in : List ℕ → Option (List (List ℕ))) (folders : List (List ℕ)) (files : List FoundFile) : Type 0 where
  pub each : (party : Party) (path : List ℕ) → Contains (map told_of files) (party, path) → IsFileOf names_in folders party path
  pub all : (party : Party) (folder name : List ℕ) (names : List (List ℕ)) → Contains folders folder → names_in folder ≡ Some names → Contains names name → IsNameOf party name → Contains (map told_of files) (party, path_in folder name)

-- ---- files that are compressed

-- Where a folder has these names, this one is that of a recorder's file that is only there compressed: the file itself is not there.
pub record IsCompressed (names : List (List ℕ)) (name : List ℕ) : Type 0 where
  pub party : Party
  pub whole : List ℕ
  pub is_name : IsNameOf party whole
  pub is_ended : IsCompressedName whole name
  pub alone : Contains names whole → ⊥

-- This is the path of such a file in one of these folders. What is in a folder may be known.
pub record IsCompressedFile (names_in : List ℕ → Option (List (List ℕ))) (folders : List (List ℕ)) (path : List ℕ) : Type 0 where
  pub folder : List ℕ
  pub name : List ℕ
  pub named : Contains folders folder
  pub there : IfSome (names_in folder) (λ names. Contains names name × IsCompressed names name)
  pub is : path ≡ path_in folder name

-- These are the paths of such files in the folders: each is one, and none is left out where it is known what is in a folder.
pub record AreCompressed (names_in : List ℕ → Option (List (List ℕ))) (folders : List (List ℕ)) (paths : List (List ℕ)) : Type 0 where
  pub each : (path : List ℕ) → Contains paths path → IsCompressedFile names_in folders path
  pub all : (folder name : List ℕ) (names : List (List ℕ)) → Contains folders folder → names_in folder ≡ Some names → Contains names name → IsCompressed names name → Contains paths (path_in folder name)

-- ---- what they are

-- Each file of a log has a head, with the name of this recording, and this was surveyed of it; or it ends within its head.
pub record IsSurveyed (bytes_of : List ℕ → Option (List ℕ)) (recording : List ℕ) (party : Party) (log : FoundLog) : Type 0 where
  pub parted : IsPermutation (map string_bytes log.names.items) (map string_bytes log.paths.items ++ map string_bytes log.headless.items)
  pub surveyed : AllZip (λ path s. IsSurveyOf party (bytes_of path) recording s) (map string_bytes log.paths.items) log.surveyed.items
  pub headless : AllByRecursion (λ path. Says party (bytes_of path) None) (map string_bytes log.headless.items)

-- These are the logs of the files in the folders: the log of each party is that of its files, and each was surveyed. All files are of one
-- recording.
pub record IsFoundIn (names_in : List ℕ → Option (List (List ℕ))) (bytes_of : List ℕ → Option (List ℕ)) (folders : List (List ℕ)) (logs : FoundLogs) : Type 0 where
  pub files : (party : Party) → AreFilesOf names_in folders party (map string_bytes (log_of logs party).names.items)
  pub recording : List ℕ
  pub surveyed : (party : Party) → IsSurveyed bytes_of recording party (log_of logs party)
