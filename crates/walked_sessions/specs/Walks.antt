-- The recording that the files of its logs make.
use Rattle.std.specs.Prelude.{◌≡◌, ◌≤◌, ◌⊎◌, ℕ, List, [], ◌∷◌, ◌++◌, Option, Some, None, IfSome, IsSome, length, map, slice_get}
use Rattle.std.specs.List.{AllByRecursion}
use Rattle.migration_types.specs.declared.records.LogName.{LogName}
use Rattle.migration_types.specs.declared.records.LogName.TheVariants.{Guest, Source, Link, Lane, Pager}
use Rattle.migration_types.specs.declared.records.LinkRec.{LinkRec}
use Rattle.migration_types.specs.declared.records.LinkRec.TheVariants.{Down as LinkDown, Up as LinkUp}
use Rattle.migration_types.specs.declared.records.LaneRec.{LaneRec}
use Rattle.migration_types.specs.declared.records.LaneRec.TheVariants.{Down as LaneDown}
use Rattle.migration_types.specs.Sessions.{Recorded}
use Rattle.session_grammar.specs.Records.{guest_line, lane_line, link_line}
use Rattle.recordings.specs.Recordings.{IsGuestRecOf, IsLaneRecOf, IsLinkRecOf}
use Rattle.recordings.specs.Wide.{extent_of, guest_of, init_of, lane_of, link_of}
use Rattle.recordings.specs.declared.machine.WideMachine.{WideMachine}
use Rattle.recordings.specs.declared.wide.WideInit.{WideInit}
use Rattle.recordings.specs.declared.wide.WideGuest.{WideGuest}
use Rattle.recordings.specs.declared.wide.WideLink.{WideLink}
use Rattle.recordings.specs.declared.wide.WideLane.{WideLane}
use Rattle.recorder_files.specs.declared.delivering.Message.{Message}
use Rattle.recorder_files.specs.declared.delivering.Message.TheVariants.{Down, Up}
use Rattle.recorder_files.specs.Deliveries.{delivered, of_pager}
use Rattle.recorder_files.specs.declared.lines.Party.{Party}
use Rattle.recorder_files.specs.declared.lines.Party.TheVariants.{Of}
use Rattle.recorder_files.specs.declared.noting.Delivered.{Delivered}
use Rattle.recorder_files.specs.declared.raw.RawSource.{RawSource}
use Rattle.recorder_files.specs.declared.raw.RawPager.{RawPager}
use Rattle.recorder_files.specs.Raw.{lost_number, raw_source_line, raw_pager_line, IsRawSourceOf, IsRawPagerOf}
use Rattle.recorder_files.specs.Told.{HasMessages, lane_messages, lane_packet, link_messages, link_packet, numbered_pager, numbered_source, request}
use Rattle.recorder_files.specs.Logs.{Came, Gathering}
use Rattle.recorder_files.specs.Records.{SayUpTo}

-- ---- what the files of a log tell

-- the bytes of each file of each log, where they are known
abbrev pub Bytes : Type 0
Bytes = LogName → List (Option (List ℕ))

-- the bytes of each file of a log are known
abbrev pub AreKnown : Bytes → LogName → Type 0
AreKnown bytes log = AllByRecursion IsSome (bytes log)

-- The files of a log tell these records: up to its end, or to the first number that no file has.
pub record TellLog {X : Type 0} (line : X → List ℕ) (IsOf : X → Type 0) (party : Party) (knowns : List (Option (List ℕ))) (records : List X) : Type 0 where
  pub gathering : Gathering
  pub hole : Option ℕ
  pub say : SayUpTo line IsOf party knowns gathering hole records

-- the log has no hole: its files say it to its end
abbrev pub IsWhole : {X : Type 0} {line : X → List ℕ} {IsOf : X → Type 0} {party : Party} {knowns : List (Option (List ℕ))} {records : List X} → TellLog line IsOf party knowns records → Type 0
IsWhole tell = tell.hole ≡ None

abbrev pub TellGuest : WideMachine → Bytes → List WideGuest → Type 0
TellGuest machine bytes = TellLog (λ r. guest_line (guest_of r)) (λ r. IsGuestRecOf (extent_of machine) (guest_of r)) (Of Guest) (bytes Guest)

abbrev pub TellSource : WideMachine → Bytes → List RawSource → Type 0
TellSource machine bytes = TellLog raw_source_line (IsRawSourceOf (extent_of machine)) (Of Source) (bytes Source)

abbrev pub TellLink : WideMachine → Bytes → List WideLink → Type 0
TellLink machine bytes = TellLog (λ r. link_line (link_of r)) (λ r. IsLinkRecOf (link_of r)) (Of Link) (bytes Link)

abbrev pub TellLane : WideMachine → Bytes → List WideLane → Type 0
TellLane machine bytes = TellLog (λ r. lane_line (lane_of r)) (λ r. IsLaneRecOf machine.version (lane_of r)) (Of Lane) (bytes Lane)

abbrev pub TellPager : WideMachine → Bytes → List RawPager → Type 0
TellPager machine bytes = TellLog raw_pager_line (IsRawPagerOf machine.version (extent_of machine)) (Of Pager) (bytes Pager)

-- these are the messages that the files of the pager and of the source tell
pub record AreMessagesOf (machine : WideMachine) (bytes : Bytes) (messages : Delivered) : Type 0 where
  pub pager : List RawPager
  pub source : List RawSource
  pub tell_pager : TellPager machine bytes pager
  pub tell_source : TellSource machine bytes source
  pub has : HasMessages messages pager source

-- ---- the numbers of messages

-- This is the number of a message: its place among the deliveries, while the pager writes this many records. If its sender's record is
-- none of these, it is the number that no record has.
abbrev pub IsNumberOf : List Message → ℕ → Message → ℕ → Type 0
IsNumberOf deliveries count message n = (slice_get deliveries n ≡ Some message) ⊎ ((count ≤ of_pager message) × (n ≡ lost_number))

-- the number of the message that a record takes, if it takes one
abbrev pub IsUp : List Message → ℕ → ℕ → RawSource → ℕ → Type 0
IsUp link count k rec n = IfSome (request k rec) (λ message. IsNumberOf link count message n)

abbrev pub IsDown : List Message → List Message → ℕ → ℕ → RawPager → ℕ → Type 0
IsDown link lane count k rec n = IfSome (link_packet k rec) (λ message. IsNumberOf link count message n) × IfSome (lane_packet k rec) (λ message. IsNumberOf lane count message n)

-- these are the records, each with the number of the message that it takes
pub record AreNumbered {R S : Type 0} (numbered : ℕ → R → S) (IsNumber : ℕ → R → ℕ → Type 0) (raws : List R) (records : List S) : Type 0 where
  pub many : length records ≡ length raws
  pub each : (k : ℕ) (raw : R) (rec : S) → slice_get raws k ≡ Some raw → slice_get records k ≡ Some rec → (n : ℕ) × IsNumber k raw n × (rec ≡ numbered n raw)

-- ---- the recording

abbrev pub link_delivery : Message → LinkRec
link_delivery (Down sent taken) = LinkDown sent
link_delivery (Up sent taken) = LinkUp sent

abbrev pub lane_delivery : Message → LaneRec
lane_delivery (Down sent taken) = LaneDown sent
lane_delivery (Up sent taken) = LaneDown sent

-- The files of the logs make this recording, with this machine and these initial pages. The link and the lane are each what its own
-- files tell, and then the deliveries of the messages that the records of the pager and of the source take without it. It is one of
-- the two: either the log's own files have no record, or no record takes a message without it.
pub record IsRecordingOf (machine : WideMachine) (initial : List WideInit) (bytes : Bytes) (s : Recorded) : Type 0 where
  pub guest : List WideGuest
  pub source : List RawSource
  pub link : List WideLink
  pub lane : List WideLane
  pub pager : List RawPager
  pub tell_guest : TellGuest machine bytes guest
  pub tell_source : TellSource machine bytes source
  pub tell_link : TellLink machine bytes link
  pub tell_lane : TellLane machine bytes lane
  pub tell_pager : TellPager machine bytes pager
  pub one_link : (link ≡ []) ⊎ (link_messages pager source ≡ [])
  pub one_lane : (lane ≡ []) ⊎ (lane_messages pager ≡ [])
  pub version : s.version ≡ machine.version
  pub geometry : s.geometry ≡ extent_of machine
  pub init : s.init ≡ map init_of initial
  pub guests : s.guest ≡ map guest_of guest
  pub sources : AreNumbered numbered_source (IsUp (delivered (link_messages pager source) (length pager)) (length pager)) source s.source
  pub links : s.link ≡ map link_of link ++ map link_delivery (delivered (link_messages pager source) (length pager))
  pub lanes : s.lane ≡ map lane_of lane ++ map lane_delivery (delivered (lane_messages pager) (length pager))
  pub pagers : AreNumbered numbered_pager (IsDown (delivered (link_messages pager source) (length pager)) (delivered (lane_messages pager) (length pager)) (length pager)) pager s.pager

-- No log has a hole: the files of each say it to its end.
pub record HasNoHole {machine : WideMachine} {initial : List WideInit} {bytes : Bytes} {s : Recorded} (made : IsRecordingOf machine initial bytes s) : Type 0 where
  pub guest : IsWhole made.tell_guest
  pub source : IsWhole made.tell_source
  pub link : IsWhole made.tell_link
  pub lane : IsWhole made.tell_lane
  pub pager : IsWhole made.tell_pager

-- a visitor met the recording that the files of the logs make
pub record WalksFiles {V : Type 0} (Met : V → Recorded → Type 0) (machine : WideMachine) (init : List WideInit) (bytes : Bytes) (visitor : V) : Type 0 where
  pub s : Recorded
  pub made : IsRecordingOf machine init bytes s
  pub met : Met visitor s

-- ---- a message of a log that has records of its own

-- this record of another log takes the message
abbrev pub IsTakenBy : LogName → ℕ → Message → Type 0
IsTakenBy by n (Down sent taken) = (by ≡ Pager) × (n ≡ taken)
IsTakenBy by n (Up sent taken) = (by ≡ Source) × (n ≡ taken)

-- The files of a log have a record, and this record of another log takes one of these messages without it.
pub record HasBoth {X : Type 0} (line : X → List ℕ) (IsOf : X → Type 0) (party : Party) (knowns : List (Option (List ℕ))) (messages : List Message) (by : LogName) (n : ℕ) : Type 0 where
  pub gathering : Gathering
  pub records : List X
  pub rec : X
  pub each : AllByRecursion IsOf records
  pub is_of : IsOf rec
  pub came : Came party knowns gathering (map line records ++ line rec ∷ [])
  pub place : ℕ
  pub message : Message
  pub there : slice_get messages place ≡ Some message
  pub taken : IsTakenBy by n message

abbrev pub IsOwnLog : WideMachine → Bytes → Delivered → LogName → LogName → ℕ → Type 0
IsOwnLog machine bytes messages Link by n = HasBoth (λ r. link_line (link_of r)) (λ r. IsLinkRecOf (link_of r)) (Of Link) (bytes Link) messages.link_messages.items by n
IsOwnLog machine bytes messages Lane by n = HasBoth (λ r. lane_line (lane_of r)) (λ r. IsLaneRecOf machine.version (lane_of r)) (Of Lane) (bytes Lane) messages.lane_messages.items by n
IsOwnLog machine bytes messages _ by n = ⊥
