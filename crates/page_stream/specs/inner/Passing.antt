-- The results of the parts of a pump.
use Rattle.std.specs.Prelude.{◌≡◌, ℕ, ◌⊎◌, List, [], ◌++◌, false, length}
use Rattle.std.specs.List.{flat_map}
use Rattle.std.specs.Io.KnownBytes.{Appends}
use Rattle.migration_types.specs.Extents.{Extent}
use Rattle.page_stream.specs.Bytes.{packet_bytes}
use Rattle.page_stream.specs.Streams.{Flow, StandsFor, Takes, HasFault, IsPartial}
use Rattle.page_stream.specs.Pumps.{Known}
use Rattle.page_stream.specs.declared.Packet.{Packet}
use Rattle.page_stream.specs.declared.stream.StreamFaultKind.{StreamFaultKind}
use Rattle.page_stream.specs.declared.pumping.PumpFault.{PumpFault}
use Rattle.page_stream.specs.declared.pumping.PumpFault.TheVariants.{Read, Write, Stream, Turns, Memory, Cut}

-- the first of these bytes were written
pub record PutsFront (writer : Known) (bytes : List ℕ) : Type 0 where
  pub written : List ℕ
  pub unwritten : List ℕ
  pub appended : Appends writer.before writer.after written
  pub front : bytes ≡ written ++ unwritten

-- a fault that writing may have
abbrev pub IsOfWriting : PumpFault → Type 0
IsOfWriting fault = (fault ≡ Write) ⊎ (fault ≡ Memory)

-- a fault that reading may have
abbrev pub IsOfReading : PumpFault → Type 0
IsOfReading fault = (fault ≡ Read) ⊎ (fault ≡ Memory)

-- a stream took a piece, and the packets that were whole then, this many, were written
pub record PassesOn (writer : Known) (start end : Flow) (piece : List ℕ) (count : ℕ) : Type 0 where
  pub packets : List Packet
  pub takes : Takes start end piece packets
  pub going : end.is_broken ≡ false
  pub partial : IsPartial start.geometry end.rest
  pub appended : Appends writer.before writer.after (flat_map packet_bytes packets)
  pub count_is : length packets ≡ count

-- what a fault with a piece says about what was left of it and what was not written
abbrev pub IsPieceFault : Extent → List ℕ → List ℕ → PumpFault → Type 0
IsPieceFault e rest unwritten Read = ⊥
IsPieceFault e rest unwritten Write = Unit {0}
IsPieceFault e rest unwritten Stream = ((kind : StreamFaultKind) × HasFault e rest kind) × (unwritten ≡ [])
IsPieceFault e rest unwritten Turns = ⊥
IsPieceFault e rest unwritten Memory = Unit {0}
IsPieceFault e rest unwritten Cut = ⊥

-- a pump stops at these bytes, which are what was left and a piece
pub record StopsAt (e : Extent) (writer : Known) (bytes : List ℕ) (fault : PumpFault) : Type 0 where
  pub packets : List Packet
  pub rest : List ℕ
  pub written : List ℕ
  pub unwritten : List ℕ
  pub stands : StandsFor e bytes packets rest
  pub appended : Appends writer.before writer.after written
  pub front : flat_map packet_bytes packets ≡ written ++ unwritten
  pub is_fault : IsPieceFault e rest unwritten fault
