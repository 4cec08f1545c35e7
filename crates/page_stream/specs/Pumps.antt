-- What a pump of packets reads and writes.
use Rattle.std.specs.Prelude.{◌≡◌, ℕ, ◌≤◌, Option, List, [], ◌++◌, length}
use Rattle.std.specs.List.{flat_map, concat, AllByRecursion}
use Rattle.std.specs.Io.KnownBytes.{Consumes, Appends, IsAtEnd}
use Rattle.migration_types.specs.Extents.{Extent}
use Rattle.page_stream.specs.Bytes.{packet_bytes}
use Rattle.page_stream.specs.Streams.{StandsFor, HasFault, IsPartial}
use Rattle.page_stream.specs.declared.Packet.{Packet}
use Rattle.page_stream.specs.declared.stream.StreamFaultKind.{StreamFaultKind}
use Rattle.page_stream.specs.declared.pumping.PumpFault.{PumpFault}
use Rattle.page_stream.specs.declared.pumping.PumpFault.TheVariants.{Read, Write, Stream, Turns, Memory, Cut}

-- the bytes that a reader has left, or that a writer holds, before and after, if they are known
pub record Known : Type 0 where
  pub before : Option (List ℕ)
  pub after : Option (List ℕ)

-- Some bytes were read, which are these packets and then a rest. Some bytes were written, which are the first of the
-- packets' bytes; the others were not written.
pub record Moves (e : Extent) (reader writer : Known) (packets : List Packet) (rest written unwritten : List ℕ) : Type 0 where
  pub bytes : List ℕ
  pub read : Consumes reader.before reader.after bytes
  pub stands : StandsFor e bytes packets rest
  pub appended : Appends writer.before writer.after written
  pub front : flat_map packet_bytes packets ≡ written ++ unwritten

-- all that was left was read, and is this many packets; exactly their bytes were written
pub record PumpsAll (e : Extent) (reader writer : Known) (count : ℕ) : Type 0 where
  pub packets : List Packet
  pub moves : Moves e reader writer packets [] (flat_map packet_bytes packets) []
  pub end : IsAtEnd reader.after
  pub count_is : length packets ≡ count

-- this many reads, each of a byte or more, gave these bytes
pub record AreReads (count : ℕ) (bytes : List ℕ) : Type 0 where
  pub pieces : List (List ℕ)
  pub whole : concat pieces ≡ bytes
  pub some : AllByRecursion (λ piece. 1 ≤ length piece) pieces
  pub count_is : length pieces ≡ count

-- what a fault says about what was read and what was not written
abbrev pub IsPumpFault : Extent → ℕ → Option (List ℕ) → List ℕ → List ℕ → List ℕ → PumpFault → Type 0
IsPumpFault e turns left bytes rest unwritten Read = unwritten ≡ []
IsPumpFault e turns left bytes rest unwritten Write = Unit {0}
IsPumpFault e turns left bytes rest unwritten Stream = ((kind : StreamFaultKind) × HasFault e rest kind) × (unwritten ≡ [])
IsPumpFault e turns left bytes rest unwritten Turns = AreReads turns bytes × (unwritten ≡ [])
IsPumpFault e turns left bytes rest unwritten Memory = Unit {0}
IsPumpFault e turns left bytes rest unwritten Cut = IsAtEnd left × IsPartial e rest × (1 ≤ length rest) × (unwritten ≡ [])

-- what was read and written before a fault
pub record PumpsUntil (e : Extent) (reader writer : Known) (turns : ℕ) (fault : PumpFault) : Type 0 where
  pub packets : List Packet
  pub rest : List ℕ
  pub written : List ℕ
  pub unwritten : List ℕ
  pub moves : Moves e reader writer packets rest written unwritten
  pub is_fault : IsPumpFault e turns reader.after moves.bytes rest unwritten fault
