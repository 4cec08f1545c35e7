-- The packets in a stream of bytes.
use Rattle.std.specs.Prelude.{◌≡◌, ℕ, ◌+◌, ◌*◌, ◌<◌, ◌≤◌, ◌⊎◌, Bool, true, false, List, [], ◌∷◌, ◌++◌, take, drop, length, slice_index}
use Rattle.std.specs.List.{flat_map, AllByRecursion}
use Rattle.std.specs.Int.{w32, from_be_bytes}
use Rattle.migration_types.specs.declared.size.Size.{Size}
use Rattle.migration_types.specs.Extents.{Extent}
use Rattle.migration_types.specs.Limits.{limits}
use Rattle.page_stream.specs.Bytes.{packet_bytes, Fits, IsNoBody}
use Rattle.page_stream.specs.declared.Packet.{Packet}
use Rattle.page_stream.specs.declared.stream.StreamFaultKind.{StreamFaultKind}
use Rattle.page_stream.specs.declared.stream.StreamFaultKind.TheVariants.{Length, Kind, Fields, Memory, Broken}

-- the bytes are these packets, and then the rest
pub record StandsFor (e : Extent) (bytes : List ℕ) (packets : List Packet) (rest : List ℕ) : Type 0 where
  pub whole : bytes ≡ flat_map packet_bytes packets ++ rest
  pub each : AllByRecursion (Fits e) packets

-- the length that the first four bytes give
abbrev pub said_length : List ℕ → ℕ
said_length rest = from_be_bytes w32 (take 4 rest)

-- The greatest length of a packet: a state that has each page of the largest machine of a size released. For the small
-- size it is 262,153.
abbrev pub most_length : Size → ℕ
most_length size = 9 + 4 * (limits size).pages

-- a packet of the machine may have this length
abbrev pub IsLength : Extent → ℕ → Type 0
IsLength e n = (1 ≤ n) × (n ≤ most_length e.size)

-- a packet may have this kind byte
abbrev pub IsKind : ℕ → Type 0
IsKind kind = (1 ≤ kind) × (kind ≤ 4)

-- The fault that the rest shows: of the length once 4 bytes are there, of the kind once it is there, of the fields once
-- the packet is whole.
abbrev pub HasFault : Extent → List ℕ → StreamFaultKind → Type 0
HasFault e rest Length = (4 ≤ length rest) × (IsLength e (said_length rest) → ⊥)
HasFault e rest Kind = (5 ≤ length rest) × IsLength e (said_length rest) × (IsKind (slice_index rest 4) → ⊥)
HasFault e rest Fields = (4 + said_length rest ≤ length rest) × IsLength e (said_length rest) × IsKind (slice_index rest 4) × IsNoBody e (take (said_length rest) (drop 4 rest))
HasFault e rest Memory = ⊥
HasFault e rest Broken = ⊥

-- less than a whole packet, and no fault yet
pub record IsPartial (e : Extent) (rest : List ℕ) : Type 0 where
  pub long : 4 ≤ length rest → IsLength e (said_length rest) × (length rest < 4 + said_length rest)
  pub kind : 5 ≤ length rest → IsKind (slice_index rest 4)

-- a rest that stops the reading: it is partial, or shows a fault
abbrev pub IsRest : Extent → List ℕ → Type 0
IsRest e rest = IsPartial e rest ⊎ ((kind : StreamFaultKind) × HasFault e rest kind)

-- The reading of some bytes, however they came: the packets at the front, as many as are whole and have no fault, and
-- the rest.
pub record IsReading (e : Extent) (bytes : List ℕ) (packets : List Packet) (rest : List ℕ) : Type 0 where
  pub stands : StandsFor e bytes packets rest
  pub end : IsRest e rest

-- the state of a stream between two pieces: the bytes of a partial packet, and whether a fault was found
pub record Flow : Type 0 where
  pub geometry : Extent
  pub rest : List ℕ
  pub is_broken : Bool

-- a stream without a fault took a piece, and these packets are whole then
pub record Takes (old new : Flow) (piece : List ℕ) (packets : List Packet) : Type 0 where
  pub going : old.is_broken ≡ false
  pub geometry : new.geometry ≡ old.geometry
  pub stands : StandsFor old.geometry (old.rest ++ piece) packets new.rest

-- what a fault says about the stream and the piece
abbrev pub Refuses : Flow → Flow → List ℕ → List Packet → StreamFaultKind → Type 0
Refuses old new piece before Memory = (old.is_broken ≡ false) × (new ≡ old) × (before ≡ [])
Refuses old new piece before Broken = (old.is_broken ≡ true) × (new ≡ old) × (before ≡ [])
Refuses old new piece before kind = (new.is_broken ≡ true) × Takes old new piece before × HasFault old.geometry new.rest kind

-- these pieces were fed in turn, each was taken, and these are all their packets
abbrev pub TakesAll : Flow → List (List ℕ) → List Packet → Flow → Type 0
TakesAll old [] packets new = (new ≡ old) × (packets ≡ [])
TakesAll old (piece ∷ pieces) packets new = (mid : Flow) × (first : List Packet) × (later : List Packet) × Takes old mid piece first × TakesAll mid pieces later new × (packets ≡ first ++ later)
