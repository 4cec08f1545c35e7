-- The files of recorders, log by log, and what they lack.
use Rattle.std.specs.Prelude.{◌≡◌, ◌≢◌, ℕ, Bool, true, false, List, [], Option, Some, None, map, flat_map, string_bytes, sum_by}
use Rattle.std.specs.List.{AllZip}
use Rattle.migration_types.specs.declared.records.LogName.{LogName}
use Rattle.migration_types.specs.declared.records.LogName.TheVariants.{Guest, Source, Link, Lane, Pager}
use Rattle.recorder_files.specs.declared.lines.Party.{Party}
use Rattle.recorder_files.specs.declared.lines.Party.TheVariants.{Machine, Of}
use Rattle.recorder_files.specs.Lacks.{lacks, record_count}
use Rattle.recorder_files.specs.Parts.{AllFit, ArePartsOf}
use Rattle.recorder_files.specs.declared.log_parts.LogPart.{LogPart}
use Rattle.recorder_files.specs.Machine.{FileTells, IsDescribed}
use Rattle.recorder_files.specs.declared.machine_log.MachineEntry.{MachineEntry}
use Rattle.recorder_files.specs.declared.describing.Description.{Description}
use Rattle.session_commands.specs.declared.found.FoundLog.{FoundLog}
use Rattle.session_commands.specs.declared.found.FoundLogs.{FoundLogs}

-- ---- the files of the logs

-- the files of a log
abbrev pub log_in : FoundLogs → LogName → FoundLog
log_in logs Guest = logs.guest
log_in logs Source = logs.source
log_in logs Link = logs.link
log_in logs Lane = logs.lane
log_in logs Pager = logs.pager

-- the log of a party
abbrev pub log_of : FoundLogs → Party → FoundLog
log_of logs Machine = logs.machine
log_of logs (Of log) = log_in logs log

-- the bytes of each file of a log, where they are known
abbrev pub known_in : (List ℕ → Option (List ℕ)) → FoundLog → List (Option (List ℕ))
known_in files log = map (λ path. files (string_bytes path)) log.paths.items

-- ---- the machine

-- the files of the machine's log tell these records, each file its own
pub record TellMachine (knowns : List (Option (List ℕ))) (log : List MachineEntry) : Type 0 where
  pub told : List (List MachineEntry)
  pub each : AllZip FileTells knowns told
  pub all : log ≡ flat_map (λ entries. entries) told

-- the files of the machine's log describe this machine
pub record Describe (knowns : List (Option (List ℕ))) (d : Description) : Type 0 where
  pub log : List MachineEntry
  pub tell : TellMachine knowns log
  pub described : IsDescribed log d

-- ---- what is lost

-- how many records the files of a log have
abbrev pub records_in : FoundLog → ℕ
records_in log = sum_by (λ s. s.records) log.surveyed.items

-- The files of a log lack nothing, and tell of so many records: each has its head, those of one part fit together, and the parts
-- lack nothing.
pub record LacksNothing (log : FoundLog) (count : ℕ) : Type 0 where
  pub heads : log.headless.items ≡ []
  pub fit : AllFit log.surveyed.items
  pub parts : List LogPart
  pub are_parts : ArePartsOf log.surveyed.items parts
  pub lacks_none : lacks parts ≡ []
  pub counted : count ≡ record_count parts

-- nothing of a log is lost: its files lack nothing, and have each record that they tell of
abbrev pub HasAll : FoundLog → Type 0
HasAll log = LacksNothing log (records_in log)

-- The lane's log has a file exactly if the machine's log tells that there is one, where it tells that. (Another log whose files are all
-- lost has no record, which is told.)
abbrev pub IsLaneAsTold : Option Bool → FoundLog → Type 0
IsLaneAsTold None lane = Unit {0}
IsLaneAsTold (Some true) lane = lane.names.items ≢ []
IsLaneAsTold (Some false) lane = lane.names.items ≡ []
