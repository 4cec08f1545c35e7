-- Why the logs of a recording are not gone through.
use Rattle.std.specs.Prelude.{◌≡◌, ◌≢◌, ◌⊎◌, ℕ, List, Option, Some, slice_get}
use Rattle.migration_types.specs.declared.records.LogName.{LogName}
use Rattle.migration_types.specs.declared.records.LogName.TheVariants.{Guest, Source, Link, Lane, Pager}
use Rattle.session_grammar.specs.Records.{guest_line, lane_line, link_line}
use Rattle.recordings.specs.Recordings.{IsGuestRecOf, IsLaneRecOf, IsLinkRecOf}
use Rattle.recordings.specs.Wide.{extent_of, guest_of, lane_of, link_of}
use Rattle.recordings.specs.declared.machine.WideMachine.{WideMachine}
use Rattle.recorder_files.specs.declared.files.FileFault.TheVariants.{Memory as FileMemory}
use Rattle.recorder_files.specs.declared.lines.Party.{Party}
use Rattle.recorder_files.specs.declared.lines.Party.TheVariants.{Of}
use Rattle.recorder_files.specs.declared.noting.Delivered.{Delivered}
use Rattle.recorder_files.specs.Raw.{raw_source_line, raw_pager_line, IsRawSourceOf, IsRawPagerOf}
use Rattle.recorder_files.specs.Said.{IsFault}
use Rattle.recorder_files.specs.declared.gatherers.GatherFault.{GatherFault}
use Rattle.recorder_files.specs.declared.gatherers.GatherFault.TheVariants.{File, Twice, Missing, Memory as NoMemory}
use Rattle.recorder_files.specs.declared.taking.LogFault.{LogFault}
use Rattle.recorder_files.specs.declared.taking.LogFault.TheVariants.{Files, Record, Memory as LogMemory}
use Rattle.recorder_files.specs.Logs.{Gathering}
use Rattle.recorder_files.specs.Records.{IsLogFault}
use Rattle.walked_sessions.specs.declared.files.WalkFault.{WalkFault}
use Rattle.walked_sessions.specs.declared.files.WalkFault.TheVariants.{Log, OwnLog, Changed, Memory}
use Rattle.walked_sessions.specs.Walks.{AreKnown, AreMessagesOf, Bytes, IsOwnLog}

-- ---- what is wrong with a log

-- what is wrong with one of the files of a log in front of its first record, or that memory was refused
abbrev pub IsOpenFault : Party → List (Option (List ℕ)) → GatherFault → Type 0
IsOpenFault party knowns (File i fault) = (known : Option (List ℕ)) × (slice_get knowns i ≡ Some known) × IsFault party known fault
IsOpenFault party knowns (Twice i j) = ⊥
IsOpenFault party knowns (Missing n) = ⊥
IsOpenFault party knowns NoMemory = Unit {0}

-- memory was refused while a log was read
abbrev pub IsMemory : LogFault → Type 0
IsMemory (Files (File i fault)) = fault ≡ FileMemory
IsMemory (Files (Twice i j)) = ⊥
IsMemory (Files (Missing n)) = ⊥
IsMemory (Files NoMemory) = Unit {0}
IsMemory (Record n) = ⊥
IsMemory LogMemory = Unit {0}

-- This is wrong with the files of a log, behind records that came of them. It is no fault of a log that no file has the next record:
-- the log is told up to there. Nor is it one that memory was refused.
pub record HasLogFault {X : Type 0} (line : X → List ℕ) (IsOf : X → Type 0) (party : Party) (knowns : List (Option (List ℕ))) (fault : LogFault) : Type 0 where
  pub gathering : Gathering
  pub is : IsLogFault line IsOf party knowns gathering fault
  pub to_hole : (n : ℕ) → fault ≢ Files (Missing n)
  pub no_memory : IsMemory fault → ⊥

-- this is wrong with the files of this log
abbrev pub HasFault : WideMachine → Bytes → LogName → LogFault → Type 0
HasFault machine bytes Guest fault = HasLogFault (λ r. guest_line (guest_of r)) (λ r. IsGuestRecOf (extent_of machine) (guest_of r)) (Of Guest) (bytes Guest) fault
HasFault machine bytes Source fault = HasLogFault raw_source_line (IsRawSourceOf (extent_of machine)) (Of Source) (bytes Source) fault
HasFault machine bytes Link fault = HasLogFault (λ r. link_line (link_of r)) (λ r. IsLinkRecOf (link_of r)) (Of Link) (bytes Link) fault
HasFault machine bytes Lane fault = HasLogFault (λ r. lane_line (lane_of r)) (λ r. IsLaneRecOf machine.version (lane_of r)) (Of Lane) (bytes Lane) fault
HasFault machine bytes Pager fault = HasLogFault raw_pager_line (IsRawPagerOf machine.version (extent_of machine)) (Of Pager) (bytes Pager) fault

-- ---- why the logs are not gone through

-- The messages are not those of the files of the pager and of the source, if the bytes of these files are known.
abbrev pub HaveChanged : WideMachine → Bytes → Delivered → Type 0
HaveChanged machine bytes messages = AreKnown bytes Pager → AreKnown bytes Source → AreMessagesOf machine bytes messages → ⊥

-- What is wrong with a log; or a record takes a message of a log whose own files have a record; or the files have changed since the
-- messages were noted. Nothing is said of a refusal of memory.
abbrev pub IsWalkFault : WideMachine → Bytes → Delivered → WalkFault → Type 0
IsWalkFault machine bytes messages (Log log fault) = HasFault machine bytes log fault
IsWalkFault machine bytes messages (OwnLog log by n) = IsOwnLog machine bytes messages log by n
IsWalkFault machine bytes messages Changed = HaveChanged machine bytes messages
IsWalkFault machine bytes messages Memory = Unit {0}

-- ---- why messages are not noted

-- what is wrong with the log of the pager or of the source, or that memory was refused
abbrev pub IsNoteFault : WideMachine → Bytes → WalkFault → Type 0
IsNoteFault machine bytes (Log log fault) = ((log ≡ Pager) ⊎ (log ≡ Source)) × HasFault machine bytes log fault
IsNoteFault machine bytes (OwnLog log by n) = ⊥
IsNoteFault machine bytes Changed = ⊥
IsNoteFault machine bytes Memory = Unit {0}
