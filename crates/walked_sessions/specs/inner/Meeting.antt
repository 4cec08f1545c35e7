-- What a visitor met of a log, as its records are taken, and once its files were read; and whether the log has no hole.
use Rattle.std.specs.Prelude.{◌≡◌, ◌≤◌, ◌⊎◌, ◌↔◌, Bool, true, IsTrue, ℕ, List, [], ◌∷◌, ◌++◌, length, map, take}
use Rattle.migration_types.specs.declared.records.LogName.{LogName}
use Rattle.migration_types.specs.declared.records.LogName.TheVariants.{Guest, Source, Pager}
use Rattle.migration_types.specs.declared.records.SourceRec.{SourceRec}
use Rattle.migration_types.specs.declared.records.PagerRec.{PagerRec}
use Rattle.migration_types.specs.Sessions.{Recorded}
use Rattle.session_grammar.specs.Records.{guest_line}
use Rattle.recordings.specs.Recordings.{IsGuestRecOf}
use Rattle.recordings.specs.Seen.{BeforeLink, IsNext, with_record}
use Rattle.recordings.specs.Wide.{extent_of, guest_of, init_of}
use Rattle.recordings.specs.declared.machine.WideMachine.{WideMachine}
use Rattle.recordings.specs.declared.wide.WideInit.{WideInit}
use Rattle.recordings.specs.declared.wide.WideLink.{WideLink}
use Rattle.recordings.specs.declared.wide.WideLink.TheVariants.{Down as LinkDown, Up as LinkUp}
use Rattle.recordings.specs.declared.wide.WideLane.{WideLane}
use Rattle.recordings.specs.declared.wide.WideLane.TheVariants.{Down as LaneDown}
use Rattle.recordings.specs.declared.wide.Wide.{Wide}
use Rattle.recordings.specs.declared.wide.Wide.TheVariants as wide
use Rattle.recorder_files.specs.declared.delivering.Message.{Message}
use Rattle.recorder_files.specs.declared.delivering.Message.TheVariants.{Down, Up}
use Rattle.recorder_files.specs.Deliveries.{AreNumbers}
use Rattle.recorder_files.specs.declared.lines.Party.TheVariants.{Of}
use Rattle.recorder_files.specs.declared.noting.Delivered.{Delivered}
use Rattle.recorder_files.specs.declared.raw.RawSource.{RawSource}
use Rattle.recorder_files.specs.declared.raw.RawPager.{RawPager}
use Rattle.recorder_files.specs.Raw.{raw_source_line, raw_pager_line, IsRawSourceOf, IsRawPagerOf}
use Rattle.recorder_files.specs.Told.{lane_packet, link_packet, numbered_pager, numbered_source, request, told_from}
use Rattle.walked_sessions.specs.Walks.{AreNumbered, Bytes, IsDown, IsUp, IsWhole, TellLog}
use Rattle.walked_sessions.specs.declared.takers.CarrierTaker.{CarrierTaker}
use Rattle.walked_sessions.specs.declared.takers.SourceTaker.{SourceTaker}
use Rattle.walked_sessions.specs.declared.takers.PagerTaker.{PagerTaker}
use Rattle.walked_sessions.specs.inner.Passing.{HasPassed}

-- a recording with these records of the source, or of the pager
abbrev pub with_sources : Recorded → List SourceRec → Recorded
with_sources d records = record { version = d.version; geometry = d.geometry; init = d.init; guest = d.guest; source = records; link = d.link; lane = d.lane; pager = d.pager }

abbrev pub with_pagers : Recorded → List PagerRec → Recorded
with_pagers d records = record { version = d.version; geometry = d.geometry; init = d.init; guest = d.guest; source = d.source; link = d.link; lane = d.lane; pager = records }

-- a recording with more records of a log
abbrev pub with_records : {X : Type 0} → (X → Wide) → Recorded → List X → Recorded
with_records wide d [] = d
with_records wide d (rec ∷ records) = with_records wide (with_record d (wide rec)) records

-- the next records may be such, numbered from 0
abbrev pub MayCome : {X : Type 0} → (X → Wide) → Recorded → Type 0
MayCome {X} wide d = (records : List X) (rec : X) → IsNext (with_records wide d records) (length records) (wide rec)

-- these records of a log were met
abbrev pub MeetsAll : {V X : Type 0} → (V → Recorded → Type 0) → (X → Wide) → V → V → List X → Type 0
MeetsAll Met wide from onto records = (d : Recorded) → MayCome wide d → Met from d → Met onto (with_records wide d records)

-- the source's records were met, with the numbers of their messages
pub record MeetsSource {V : Type 0} (Met : V → Recorded → Type 0) (first : SourceTaker) (from : V) (now : SourceTaker) (onto : V) (records : List RawSource) : Type 0 where
  pub passed : HasPassed first.link now.link (told_from request 0 records)
  pub met : (d : Recorded) → BeforeLink d → d.source ≡ [] → Met from d → (deliveries : List Message) (count : ℕ) → AreNumbers first.link.messages.now count deliveries first.link.numbers.now → (whole : List SourceRec) × AreNumbered numbered_source (IsUp deliveries count) records whole × Met onto (with_sources d whole)

-- the records of the own files of the link or of the lane were met, of which there are none if messages were noted
pub record MeetsCarrier {V X : Type 0} (Met : V → Recorded → Type 0) (wide : X → Wide) (first : CarrierTaker) (from : V) (now : CarrierTaker) (onto : V) (records : List X) : Type 0 where
  pub told : now.is_told ≡ first.is_told
  pub none : first.is_told ≡ true → records ≡ []
  pub met : MeetsAll Met wide from onto records

-- the pager's records were met, with the numbers of their messages
pub record MeetsPager {V : Type 0} (Met : V → Recorded → Type 0) (first : PagerTaker) (from : V) (now : PagerTaker) (onto : V) (records : List RawPager) : Type 0 where
  pub link : HasPassed first.link now.link (told_from link_packet 0 records)
  pub lane : HasPassed first.lane now.lane (told_from lane_packet 0 records)
  pub count : now.count ≡ length records
  pub met : (d : Recorded) → d.pager ≡ [] → Met from d → (link lane : List Message) (count : ℕ) → AreNumbers first.link.messages.now count link first.link.numbers.now → AreNumbers first.lane.messages.now count lane first.lane.numbers.now → (whole : List PagerRec) × AreNumbered numbered_pager (IsDown link lane count) records whole × Met onto (with_pagers d whole)

-- ---- once its files were read

-- the machine and the initial pages alone
abbrev pub begun_with : WideMachine → List WideInit → Recorded
begun_with machine init = record { version = machine.version; geometry = extent_of machine; init = map init_of init; guest = []; source = []; link = []; lane = []; pager = [] }

-- the records for the delivery of a message
abbrev pub wide_link_delivery : Message → WideLink
wide_link_delivery (Down sent taken) = LinkDown sent
wide_link_delivery (Up sent taken) = LinkUp sent

abbrev pub wide_lane_delivery : Message → WideLane
wide_lane_delivery (Down sent taken) = LaneDown sent
wide_lane_delivery (Up sent taken) = LaneDown sent

-- The files of a log tell records of which this is so; and whether they say the log to its end.
pub record WalksLog {X : Type 0} (line : X → List ℕ) (IsOf : X → Type 0) (log : LogName) (bytes : Bytes) (Is : List X → Type 0) (is_whole : Bool) : Type 0 where
  pub records : List X
  pub tell : TellLog line IsOf (Of log) (bytes log) records
  pub whole : IsTrue is_whole ↔ IsWhole tell
  pub is : Is records

abbrev pub WalksGuest : {V : Type 0} → (V → Recorded → Type 0) → WideMachine → Bytes → V → V → Bool → Type 0
WalksGuest Met machine bytes from onto = WalksLog (λ r. guest_line (guest_of r)) (λ r. IsGuestRecOf (extent_of machine) (guest_of r)) Guest bytes (MeetsAll Met wide.Guest from onto)

pub record OfSource {V : Type 0} (Met : V → Recorded → Type 0) (messages : Delivered) (from onto : V) (records : List RawSource) : Type 0 where
  pub told : messages.packets ≤ length messages.link_messages.items → messages.link_messages.items ≡ take messages.packets messages.link_messages.items ++ told_from request 0 records
  pub met : (d : Recorded) → BeforeLink d → d.source ≡ [] → Met from d → (deliveries : List Message) (count : ℕ) → AreNumbers messages.link_messages.items count deliveries messages.link.numbers.items → (sources : List SourceRec) × AreNumbered numbered_source (IsUp deliveries count) records sources × Met onto (with_sources d sources)

abbrev pub WalksSource : {V : Type 0} → (V → Recorded → Type 0) → WideMachine → Bytes → Delivered → V → V → Bool → Type 0
WalksSource Met machine bytes messages from onto = WalksLog raw_source_line (IsRawSourceOf (extent_of machine)) Source bytes (OfSource Met messages from onto)

-- the link or the lane: the deliveries, or else the log's own records, beside no message
pub record OfCarrier {V X : Type 0} (Met : V → Recorded → Type 0) (wide : X → Wide) (delivery : Message → X) (messages deliveries : List Message) (from onto : V) (records : List X) : Type 0 where
  pub either : ((records ≡ []) × ((d : Recorded) → MayCome wide d → MayCome (λ m. wide (delivery m)) d → Met from d → Met onto (with_records (λ m. wide (delivery m)) d deliveries))) ⊎ ((messages ≡ []) × MeetsAll Met wide from onto records)

abbrev pub WalksCarrier : {V X : Type 0} → (V → Recorded → Type 0) → (X → List ℕ) → (X → Type 0) → LogName → (X → Wide) → (Message → X) → Bytes → List Message → List Message → V → V → Bool → Type 0
WalksCarrier Met line IsOf log wide delivery bytes messages deliveries from onto = WalksLog line IsOf log bytes (OfCarrier Met wide delivery messages deliveries from onto)

pub record OfPager {V : Type 0} (Met : V → Recorded → Type 0) (messages : Delivered) (from onto : V) (records : List RawPager) : Type 0 where
  pub packets : take messages.packets messages.link_messages.items ≡ told_from link_packet 0 records
  pub pulls : messages.lane_messages.items ≡ told_from lane_packet 0 records
  pub count : messages.pager ≡ length records
  pub met : (d : Recorded) → d.pager ≡ [] → Met from d → (link lane : List Message) (count : ℕ) → AreNumbers messages.link_messages.items count link messages.link.numbers.items → AreNumbers messages.lane_messages.items count lane messages.lane.numbers.items → (pagers : List PagerRec) × AreNumbered numbered_pager (IsDown link lane count) records pagers × Met onto (with_pagers d pagers)

abbrev pub WalksPager : {V : Type 0} → (V → Recorded → Type 0) → WideMachine → Bytes → Delivered → V → V → Bool → Type 0
WalksPager Met machine bytes messages from onto = WalksLog raw_pager_line (IsRawPagerOf machine.version (extent_of machine)) Pager bytes (OfPager Met messages from onto)
