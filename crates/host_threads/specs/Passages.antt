-- The passage of a packet before it is delivered.
use Rattle.std.specs.Prelude.{◌≡◌, ℕ, Bool, true, false, List, Option}
use Rattle.migration_events.specs.declared.events.Fate.{Fate}
use Rattle.migration_events.specs.declared.events.Fate.TheVariants.{Deliver, Repeat}
use Rattle.page_stream.specs.declared.Packet.{Packet}
use Rattle.page_stream.specs.Bytes.{packet_bytes}
use Rattle.host_threads.specs.Echoes.{Carries}
use Rattle.host_threads.specs.declared.passage.Passage.{Passage}
use Rattle.host_threads.specs.declared.passage.Passage.TheVariants.{InMemory, Over}

-- if the passage is over a relay, the bytes that came back last are the packet's
abbrev pub HasPassed : {L : Type 0} → Passage L → Packet → Type 0
HasPassed InMemory packet = Unit {0}
HasPassed (Over relay echo) packet = echo.came ≡ packet_bytes packet

-- what came back last over the relay is what the relay gave, given what it held before and the packet's bytes
abbrev pub IsCarried : {L : Type 0} → (L → Option (List ℕ)) → Passage L → Passage L → Packet → Type 0
IsCarried held InMemory new packet = Unit {0}
IsCarried held (Over relay echo) InMemory packet = ⊥
IsCarried held (Over relay echo) (Over after came) packet = Carries (held relay) (held after) (packet_bytes packet) came.came

-- whether a packet with this delivery outcome arrives at this turn
abbrev pub arrives : Fate → Bool
arrives Deliver = true
arrives Repeat = true
arrives _ = false
