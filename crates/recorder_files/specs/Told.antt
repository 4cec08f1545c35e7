-- The messages over the link and the lane in the records of the pager and of the source, if the receiver of a message
-- records which one it is.
use Rattle.std.specs.Prelude.{◌≡◌, ◌≤◌, ℕ, suc, List, [], ◌∷◌, ◌++◌, Option, Some, None, length}
use Rattle.std.specs.Option.{option_to_list}
use Rattle.migration_types.specs.declared.records.SourceRec.{SourceRec}
use Rattle.migration_types.specs.declared.records.SourceRec.TheVariants.{Ask}
use Rattle.migration_types.specs.declared.records.PagerRec.{PagerRec}
use Rattle.migration_types.specs.declared.records.PagerRec.TheVariants.{Got, Pull}
use Rattle.recordings.specs.Wide.{source_of, pager_of}
use Rattle.recorder_files.specs.declared.delivering.Message.{Message}
use Rattle.recorder_files.specs.declared.delivering.Message.TheVariants.{Down, Up}
use Rattle.recorder_files.specs.declared.delivering.Deliveries.{Deliveries}
use Rattle.recorder_files.specs.Deliveries.{delivered, AreNumbers}
use Rattle.recorder_files.specs.declared.noting.Delivered.{Delivered}
use Rattle.recorder_files.specs.declared.noting.Told.{Told}
use Rattle.recorder_files.specs.declared.raw.RawSource.{RawSource}
use Rattle.recorder_files.specs.declared.raw.RawSource.TheVariants.{Own as OwnSource, AskSent}
use Rattle.recorder_files.specs.declared.raw.RawPager.{RawPager}
use Rattle.recorder_files.specs.declared.raw.RawPager.TheVariants.{Own as OwnPager, GotSent, PullSent}

-- the packet of the link that a record of the pager takes, given the record's number in its log
abbrev pub link_packet : ℕ → RawPager → Option Message
link_packet n (OwnPager rec) = None
link_packet n (GotSent sending) = Some (Down sending n)
link_packet n (PullSent sending) = None

-- the packet of the lane that it takes
abbrev pub lane_packet : ℕ → RawPager → Option Message
lane_packet n (OwnPager rec) = None
lane_packet n (GotSent sending) = None
lane_packet n (PullSent sending) = Some (Down sending n)

-- the message that a record of the source takes
abbrev pub request : ℕ → RawSource → Option Message
request n (OwnSource rec) = None
request n (AskSent asking) = Some (Up asking n)

-- the messages in the records of a log, which are numbered from here on
abbrev pub told_from : {R : Type 0} → (ℕ → R → Option Message) → ℕ → List R → List Message
told_from tell n [] = []
told_from tell n (rec ∷ log) = option_to_list (tell n rec) ++ told_from tell (suc n) log

abbrev pub link_messages : List RawPager → List RawSource → List Message
link_messages pager source = told_from link_packet 0 pager ++ told_from request 0 source

abbrev pub lane_messages : List RawPager → List Message
lane_messages pager = told_from lane_packet 0 pager

-- the deliveries of these messages while the pager writes this many records
pub record AreDelivered (messages : List Message) (count : ℕ) (d : Deliveries) : Type 0 where
  pub log : d.log.items ≡ delivered messages count
  pub numbers : AreNumbers messages count d.log.items d.numbers.items

-- the messages in these records
pub record HasMessages (d : Delivered) (pager : List RawPager) (source : List RawSource) : Type 0 where
  pub link : d.link_messages.items ≡ link_messages pager source
  pub packets : d.packets ≡ length (told_from link_packet 0 pager)
  pub lane : d.lane_messages.items ≡ lane_messages pager
  pub count : d.pager ≡ length pager

-- the deliveries are those of the messages, the first of which are packets
pub record Follow (d : Delivered) : Type 0 where
  pub link : AreDelivered d.link_messages.items d.pager d.link
  pub lane : AreDelivered d.lane_messages.items d.pager d.lane
  pub packets : d.packets ≤ length d.link_messages.items

-- a record with the number of the message that it takes, if it takes one
abbrev pub numbered_pager : ℕ → RawPager → PagerRec
numbered_pager number (OwnPager rec) = pager_of rec
numbered_pager number (GotSent sending) = Got number
numbered_pager number (PullSent sending) = Pull number

abbrev pub numbered_source : ℕ → RawSource → SourceRec
numbered_source number (OwnSource rec) = source_of rec
numbered_source number (AskSent asking) = Ask number

-- the messages in the records of the pager and of the source that were taken
pub record Tells (told : Told) (pager : List RawPager) (source : List RawSource) : Type 0 where
  pub packets : told.packets.items ≡ told_from link_packet 0 pager
  pub pulls : told.pulls.items ≡ told_from lane_packet 0 pager
  pub requests : told.requests.items ≡ told_from request 0 source
  pub pager_count : told.pager ≡ length pager
  pub source_count : told.source ≡ length source
