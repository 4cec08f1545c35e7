-- The invariant of the links' book.
use Rattle.std.specs.Prelude.{◌≡◌, ℕ, ◌≤◌, ◌==◌, Bool, ◌&&◌, List, Some, length, slice_get}
use Rattle.std.specs.List.{AllByRecursion}
use Rattle.migration_types.specs.Limits.{most_records}
use Rattle.migration_types.specs.declared.records.LinkRec.TheVariants.{Down, Up}
use Rattle.migration_types.specs.declared.records.LaneRec.TheVariants.{Down as LaneDown}
use Rattle.page_stream.specs.declared.Packet.{Packet}
use Rattle.page_stream.specs.Packets.{number_of}
use Rattle.link_book.specs.declared.Arrival.{Arrival}
use Rattle.link_book.specs.LinkPart.{LinkPart, Channel, Outcome, with_arrival}

-- the links' part, and whether there is room that no offer has used
pub record Linked : Type 0 where
  pub part : LinkPart
  pub has_room : Bool

abbrev pub arrival : ℕ → Packet → Arrival
arrival number packet = record { number = number; packet = packet }

abbrev pub channel : List Packet → List Arrival → Channel
channel line arrivals = record { line = line; arrivals = arrivals }

-- a channel after a turn; if a packet was delivered, its log records that
pub record HasTurned {R : Type 0} (names : ℕ → R) (o : Outcome) (before log : List R) (line : List Packet) (arrivals : List Arrival) : Type 0 where
  pub channel_is : channel line arrivals ≡ o.channel
  pub log_is : log ≡ with_arrival names o.came before

-- an arrival has the number of the record of its packet
abbrev pub IsRecorded : {R : Type 0} → (ℕ → R) → List R → Arrival → Type 0
IsRecorded names log a = slice_get log a.number ≡ Some (names (number_of a.packet))

-- the logs are within their limit, and each arrival has its record
pub record IsLink (b : LinkPart) : Type 0 where
  pub short : length b.log ≤ most_records
  pub short_lane : length b.lane_log ≤ most_records
  pub down : AllByRecursion (IsRecorded Down b.log) b.down_arrivals
  pub up : AllByRecursion (IsRecorded Up b.log) b.up_arrivals
  pub lane : AllByRecursion (IsRecorded LaneDown b.lane_log) b.lane_arrivals

-- nothing is under way, and no arrival waits
abbrev pub is_quiet : LinkPart → Bool
is_quiet b = (length b.down == 0) && (length b.up == 0) && (length b.lane == 0) && (length b.down_arrivals == 0) && (length b.up_arrivals == 0) && (length b.lane_arrivals == 0)
