-- The deliveries of a link, if the receiver of a message records which one it is. A packet is delivered just before the
-- pager takes it. What the pager sends is delivered as soon as it is sent.
use Rattle.std.specs.Prelude.{◌≡◌, ℕ, zero, suc, ◌≤◌, Bool, false, ◌==◌, nat_lt, List, [], ◌++◌, Option, Some, None, filter, length, slice_get}
use Rattle.recorder_files.specs.declared.delivering.Message.{Message}
use Rattle.recorder_files.specs.declared.delivering.Message.TheVariants.{Down, Up}

-- the number of the pager's record for a message: the record that takes it, or that sends it
abbrev pub of_pager : Message → ℕ
of_pager (Down sent taken) = taken
of_pager (Up sent taken) = sent

-- a packet that this record of the pager takes
abbrev pub is_taken_by : ℕ → Message → Bool
is_taken_by n (Down sent taken) = taken == n
is_taken_by n (Up sent taken) = false

-- a message that this record of the pager sends
abbrev pub is_sent_by : ℕ → Message → Bool
is_sent_by n (Down sent taken) = false
is_sent_by n (Up sent taken) = sent == n

-- The deliveries while the pager writes this many records: those before the last of these records, then the packets
-- that it takes, and then what it sends. If one record takes or sends several messages, they keep their order.
abbrev pub delivered : List Message → ℕ → List Message
delivered messages zero = []
delivered messages (suc n) = delivered messages n ++ (filter (is_taken_by n) messages ++ filter (is_sent_by n) messages)

-- a message whose record is among the pager's first records, this many
abbrev pub is_of_first : ℕ → Message → Bool
is_of_first count message = nat_lt (of_pager message) count

-- the number of a message is its place among the deliveries; it has none if the pager has no such record
abbrev pub IsNumber : List Message → ℕ → Message → Option ℕ → Type 0
IsNumber log count message (Some n) = slice_get log n ≡ Some message
IsNumber log count message None = count ≤ of_pager message

-- the number of each message
pub record AreNumbers (messages : List Message) (count : ℕ) (log : List Message) (numbers : List (Option ℕ)) : Type 0 where
  pub long : length numbers ≡ length messages
  pub each : (k : ℕ) (message : Message) (number : Option ℕ) → slice_get messages k ≡ Some message → slice_get numbers k ≡ Some number → IsNumber log count message number

-- One message is delivered no later than another. If a packet and a sent message belong to the same record of the
-- pager, the packet goes first.
abbrev pub NoLater : Message → Message → Type 0
NoLater (Down sent taken) other = taken ≤ of_pager other
NoLater (Up sent taken) (Down other_sent other_taken) = suc sent ≤ other_taken
NoLater (Up sent taken) (Up other_sent other_taken) = sent ≤ other_sent
