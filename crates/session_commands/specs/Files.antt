-- The recording that recorders' files make, and its text.
use Rattle.std.specs.Prelude.{◌≡◌, ◌≢◌, ℕ, ◌<◌, ◌⊎◌, ◌↔◌, List, [], Option, None, IsTrue}
use Rattle.std.specs.List.{list_any}
use Rattle.std.specs.Io.KnownBytes.{Appends}
use Rattle.migration_types.specs.declared.records.LogName.{LogName}
use Rattle.migration_types.specs.declared.records.LogName.TheVariants.{Lane}
use Rattle.migration_types.specs.declared.size.Size.TheVariants.{Large}
use Rattle.migration_types.specs.declared.version.Version.TheVariants.{Two}
use Rattle.migration_types.specs.Sessions.{Recorded, log_length}
use Rattle.command_words.specs.declared.requests.Lacking.{Lacking}
use Rattle.command_words.specs.declared.requests.Lacking.TheVariants.{Refused}
use Rattle.recordings.specs.declared.machine.WideMachine.{WideMachine}
use Rattle.recordings.specs.declared.wide.WideInit.{WideInit}
use Rattle.recorder_files.specs.Fronts.{cursors_of}
use Rattle.recorder_files.specs.declared.fronts.Front.{Front}
use Rattle.recorder_files.specs.declared.lines.Party.{Party}
use Rattle.recorder_files.specs.declared.describing.Description.{Description}
use Rattle.walked_sessions.specs.Walks.{Bytes, HasNoHole, IsRecordingOf}
use Rattle.walked_sessions.specs.Written.{text_of}
use Rattle.session_commands.specs.Logs.{known_in, log_in, log_of, Describe, HasAll, IsLaneAsTold}
use Rattle.session_commands.specs.declared.found.FoundLog.{FoundLog}
use Rattle.session_commands.specs.declared.found.FoundLogs.{FoundLogs}
use Rattle.session_commands.specs.Written.{is_pull, IsLateRelease, IsWrittenFront, NeedsLarge}
use Rattle.session_commands.specs.declared.recording.FileRecording.{FileRecording}

-- ---- the files of the logs

-- the bytes of each file of each log, where they are known
abbrev pub bytes_in : (List ℕ → Option (List ℕ)) → FoundLogs → Bytes
bytes_in files logs log = known_in files (log_in logs log)

-- the files make this recording
abbrev pub IsOfFiles : {S : Type 0} → (S → List ℕ → Option (List ℕ)) → FileRecording S → Recorded → Type 0
IsOfFiles bytes_of self s = IsRecordingOf self.machine self.init.items (bytes_in (bytes_of self.files.texts.now) self.files.logs.now) s

-- ---- the machine

-- The machine has the pages and the cells that the files of its log describe, and these are the initial pages.
pub record IsMachineOf (knowns : List (Option (List ℕ))) (machine : WideMachine) (initial : List WideInit) : Type 0 where
  pub d : Description
  pub describe : Describe knowns d
  pub pages : machine.pages ≡ d.pages
  pub cells : machine.cells ≡ d.cells
  pub init : initial ≡ d.init.items

-- ---- the records that are written

-- the machine of these pages and cells whose text may have any record
abbrev pub any_machine : ℕ → ℕ → WideMachine
any_machine pages cells = record { version = Two; size = Large; pages = pages; cells = cells }

-- ---- the version and the size of the text

-- something of the lane: a file, a record, or a packet that the pager took of it
abbrev pub HasLane : FoundLog → Recorded → Front → Type 0
HasLane lane seen front = (lane.names.items ≢ []) ⊎ ((0 < front.lane) ⊎ IsTrue (list_any is_pull seen.pager))

-- what only a text of the second version has: something of the lane, or a release behind the resume
abbrev pub NeedsTwo : FoundLog → Recorded → Front → Type 0
NeedsTwo lane seen front = HasLane lane seen front ⊎ ((n : ℕ) × (n < front.guest) × IsLateRelease seen.guest n)

-- The text is of the large size, and of the second version, exactly where it needs to be. A text of the large size is of the second
-- version.
pub record IsFormOf (lane : FoundLog) (seen : Recorded) (front : Front) (machine : WideMachine) : Type 0 where
  pub large : (machine.size ≡ Large) ↔ NeedsLarge machine.pages machine.cells seen front
  pub two : (machine.version ≡ Two) ↔ ((machine.size ≡ Large) ⊎ NeedsTwo lane seen front)

-- ---- what is written

-- What is written of the recording that the files make: the machine that its log describes, and the front of the records that the
-- files of the other logs tell.
pub record IsChosen (files : List ℕ → Option (List ℕ)) (logs : FoundLogs) (machine : WideMachine) (initial : List WideInit) (front : Front) : Type 0 where
  pub described : IsMachineOf (known_in files logs.machine) machine initial
  pub seen : Recorded
  pub made : IsRecordingOf (any_machine machine.pages machine.cells) [] (bytes_in files logs) seen
  pub written : IsWrittenFront seen front
  pub form : IsFormOf logs.lane seen front machine

-- Nothing of what the files make is left out: the front has each record, no log has a hole, and each but the lane has a record.
pub record LeavesNothing {machine : WideMachine} {initial : List WideInit} {bytes : Bytes} {s : Recorded} (made : IsRecordingOf machine initial bytes s) (front : Front) : Type 0 where
  pub all : (log : LogName) → cursors_of front log ≡ log_length s log
  pub no_hole : HasNoHole made
  pub some : (log : LogName) → log ≢ Lane → 0 < log_length s log

-- ---- what is lost

-- Nothing of what the recorders wrote is lost: no log of a party lacks anything, no number is missing in the machine's, the lane has a
-- log exactly if the machine's tells that, and nothing of what the files make is left out.
pub record LosesNothing {files : List ℕ → Option (List ℕ)} {logs : FoundLogs} {machine : WideMachine} {initial : List WideInit} {front : Front} (chosen : IsChosen files logs machine initial front) : Type 0 where
  pub has_all : (party : Party) → HasAll (log_of logs party)
  pub no_hole : chosen.described.d.behind ≡ None
  pub lane : IsLaneAsTold chosen.described.d.has_lane logs.lane
  pub leaves : LeavesNothing chosen.made front

-- ---- the text

-- This is the text of the recording that the files of these logs make, cut to its front. Nothing is lost, unless it may be cut.
pub record IsTextOf (files : List ℕ → Option (List ℕ)) (logs : FoundLogs) (lacking : Lacking) (text : List ℕ) : Type 0 where
  pub machine : WideMachine
  pub init : List WideInit
  pub front : Front
  pub chosen : IsChosen files logs machine init front
  pub whole : lacking ≡ Refused → LosesNothing chosen
  pub s : Recorded
  pub made : IsRecordingOf machine init (bytes_in files logs) s
  pub spelled : text ≡ text_of front s

-- such a text was appended
abbrev pub WritesText : (List ℕ → Option (List ℕ)) → FoundLogs → Lacking → Option (List ℕ) → Option (List ℕ) → Type 0
WritesText files logs lacking old new = (text : List ℕ) × IsTextOf files logs lacking text × Appends old new text
