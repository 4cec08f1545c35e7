-- The results of the parts of a stream's reader.
use Rattle.std.specs.Prelude.{◌≡◌, ℕ, ◌<◌, Option, Some, None, List, ◌++◌, length}
use Rattle.migration_types.specs.Extents.{Extent}
use Rattle.page_stream.specs.Packets.{number_of}
use Rattle.page_stream.specs.Bytes.{kind_of, fields_of, packet_bytes, Fits}
use Rattle.page_stream.specs.Streams.{HasFault, IsPartial}
use Rattle.page_stream.specs.declared.Packet.{Packet}
use Rattle.page_stream.specs.declared.stream.StreamHead.{StreamHead}
use Rattle.page_stream.specs.declared.stream.StreamHead.TheVariants.{Packet as HeadPacket, Partial as HeadPartial, Fault as HeadFault}
use Rattle.page_stream.specs.declared.stream.StreamFaultKind.{StreamFaultKind}

-- these bytes are the fields of this packet, after its record number
pub record AreFields (e : Extent) (kind number : ℕ) (fields : List ℕ) (p : Packet) : Type 0 where
  pub fits : Fits e p
  pub kind_is : kind_of p ≡ kind
  pub number_is : number_of p ≡ number
  pub fields_are : fields ≡ fields_of p

-- no packet has these fields
abbrev pub IsNoFields : Extent → ℕ → ℕ → List ℕ → Type 0
IsNoFields e kind number fields = (p : Packet) → AreFields e kind number fields p → ⊥

-- what some bytes begin with
abbrev pub IsFront : Extent → List ℕ → StreamHead → Type 0
IsFront e bytes (HeadPacket p rest) = Fits e p × (bytes ≡ packet_bytes p ++ rest.now) × (length rest.now < length bytes)
IsFront e bytes HeadPartial = IsPartial e bytes
IsFront e bytes (HeadFault kind) = HasFault e bytes kind

-- the fault that a rest shows, if any
abbrev pub IsEnd : Extent → List ℕ → Option StreamFaultKind → Type 0
IsEnd e rest None = IsPartial e rest
IsEnd e rest (Some kind) = HasFault e rest kind
