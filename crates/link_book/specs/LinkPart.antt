-- The book of the link and of the lane, and its part of each event.
use Rattle.std.specs.Prelude.{ℕ, List, [], ◌∷◌, ◌++◌, length, Bool, Option, Some, None, if◌then◌else◌}
use Rattle.migration_types.specs.declared.records.LinkRec.{LinkRec}
use Rattle.migration_types.specs.declared.records.LinkRec.TheVariants.{Down, Up}
use Rattle.migration_types.specs.declared.records.LaneRec.{LaneRec}
use Rattle.migration_types.specs.declared.records.LaneRec.TheVariants.{Down as LaneDown}
use Rattle.link_book.specs.declared.Arrival.{Arrival}
use Rattle.migration_events.specs.declared.events.Fate.{Fate}
use Rattle.migration_events.specs.declared.events.Fate.TheVariants.{Deliver, Lose, Repeat, Back}
use Rattle.migration_events.specs.declared.events.Direction.{Direction}
use Rattle.migration_events.specs.declared.events.Direction.TheVariants.{Down as Downward, Up as Upward, Lane as OverLane}
use Rattle.page_stream.specs.declared.Packet.{Packet}
use Rattle.page_stream.specs.Packets.{number_of, is_of_source, is_of_pager}

-- the logs of the link and of the lane, the packets under way on each channel, and those that have arrived
pub record LinkPart : Type 0 where
  pub log : List LinkRec
  pub lane_log : List LaneRec
  pub down : List Packet
  pub up : List Packet
  pub lane : List Packet
  pub down_arrivals : List Arrival
  pub up_arrivals : List Arrival
  pub lane_arrivals : List Arrival

-- nothing was sent
abbrev pub new_link : LinkPart
new_link = record { log = []; lane_log = []; down = []; up = []; lane = []; down_arrivals = []; up_arrivals = []; lane_arrivals = [] }

-- a packet is offered after the others of its line, or before them
abbrev pub with_back : Packet → LinkPart → LinkPart
with_back packet b = record b { down = b.down ++ packet ∷ [] }

abbrev pub with_front : Packet → LinkPart → LinkPart
with_front packet b = record b { down = packet ∷ b.down }

abbrev pub with_up : Packet → LinkPart → LinkPart
with_up packet b = record b { up = b.up ++ packet ∷ [] }

abbrev pub with_lane : Packet → LinkPart → LinkPart
with_lane packet b = record b { lane = b.lane ++ packet ∷ [] }

-- the packet is offered, if there is one
abbrev pub if_packet : (Packet → LinkPart → LinkPart) → Option Packet → LinkPart → LinkPart
if_packet offer None b = b
if_packet offer (Some packet) b = offer packet b

-- the line that pushed pages are offered on: the lane's if there is one, and otherwise the link's
abbrev pub pushed_line : Bool → LinkPart → List Packet
pushed_line has_lane b = if has_lane then b.lane else b.down

abbrev pub with_pushed : Bool → Packet → LinkPart → LinkPart
with_pushed has_lane packet b = if has_lane then with_lane packet b else with_back packet b

-- a channel of the link or the lane: the packets under way, and those that have arrived
pub record Channel : Type 0 where
  pub line : List Packet
  pub arrivals : List Arrival

-- the channel after a turn, and the number of the packet that arrives, if one does
pub record Outcome : Type 0 where
  pub channel : Channel
  pub came : Option ℕ

-- a packet arrives, and the log's record with this number says so
abbrev pub arrived : ℕ → Packet → Channel → Channel
arrived number packet channel = record channel { arrivals = channel.arrivals ++ (record { number = number; packet = packet }) ∷ [] }

-- a packet goes to the end of the line
abbrev pub behind : Packet → Channel → Channel
behind packet channel = record channel { line = channel.line ++ packet ∷ [] }

abbrev pub fate_of : Fate → ℕ → Packet → Channel → Outcome
fate_of Deliver number packet channel = record { channel = arrived number packet channel; came = Some (number_of packet) }
fate_of Lose number packet channel = record { channel = channel; came = None }
fate_of Repeat number packet channel = record { channel = behind packet (arrived number packet channel); came = Some (number_of packet) }
fate_of Back number packet channel = record { channel = behind packet channel; came = None }

-- which packets a channel carries
abbrev pub goes : Direction → Packet → Bool
goes Downward = is_of_source
goes Upward = is_of_pager
goes OverLane = is_of_source

-- a turn of a line takes its head; a packet that does not go this way is dropped
abbrev pub channel_turned : (Packet → Bool) → Fate → ℕ → List Packet → List Arrival → Outcome
channel_turned is_right fate number [] arrivals = record { channel = record { line = []; arrivals = arrivals }; came = None }
channel_turned is_right fate number (packet ∷ rest) arrivals =
    if is_right packet then fate_of fate number packet (record { line = rest; arrivals = arrivals })
    else record { channel = record { line = rest; arrivals = arrivals }; came = None }

-- the log records that the packet with this number has arrived
abbrev pub with_arrival : {R : Type 0} → (ℕ → R) → Option ℕ → List R → List R
with_arrival names None log = log
with_arrival names (Some number) log = log ++ names number ∷ []

-- the record of the arrival of the packet with this number, in this direction
abbrev pub link_says : Direction → ℕ → LinkRec
link_says Downward = Down
link_says Upward = Up
link_says OverLane = Down

abbrev pub lane_says : Direction → ℕ → LaneRec
lane_says direction = LaneDown

abbrev pub went_down : Outcome → LinkPart → LinkPart
went_down o b = record b { log = with_arrival Down o.came b.log; down = o.channel.line; down_arrivals = o.channel.arrivals }

abbrev pub went_up : Outcome → LinkPart → LinkPart
went_up o b = record b { log = with_arrival Up o.came b.log; up = o.channel.line; up_arrivals = o.channel.arrivals }

abbrev pub went_over_lane : Outcome → LinkPart → LinkPart
went_over_lane o b = record b { lane_log = with_arrival LaneDown o.came b.lane_log; lane = o.channel.line; lane_arrivals = o.channel.arrivals }

abbrev pub turned : Direction → Fate → LinkPart → LinkPart
turned Downward fate b = went_down (channel_turned (goes Downward) fate (length b.log) b.down b.down_arrivals) b
turned Upward fate b = went_up (channel_turned (goes Upward) fate (length b.log) b.up b.up_arrivals) b
turned OverLane fate b = went_over_lane (channel_turned (goes OverLane) fate (length b.lane_log) b.lane b.lane_arrivals) b

-- the packets under way in a direction, and the length of the log that records their arrival
abbrev pub line_of : Direction → LinkPart → List Packet
line_of Downward b = b.down
line_of Upward b = b.up
line_of OverLane b = b.lane

abbrev pub log_length : Direction → LinkPart → ℕ
log_length Downward b = length b.log
log_length Upward b = length b.log
log_length OverLane b = length b.lane_log

-- how many records a turn appends, given the packets under way in its direction
abbrev pub fate_records : Fate → ℕ
fate_records Deliver = 1
fate_records Lose = 0
fate_records Repeat = 1
fate_records Back = 0

abbrev pub turn_records : Direction → Fate → List Packet → ℕ
turn_records direction fate [] = 0
turn_records direction fate (packet ∷ rest) = if goes direction packet then fate_records fate else 0
