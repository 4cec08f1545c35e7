-- The bytes of a packet: a length of 4 bytes, which counts what follows it, a kind byte, and the fields.
use Rattle.std.specs.Prelude.{◌≡◌, ℕ, ◌+◌, ◌<◌, ◌≤◌, List, [], ◌∷◌, ◌++◌, length}
use Rattle.std.specs.List.{flat_map}
use Rattle.std.specs.Int.{w32, w64, to_be_bytes}
use Rattle.migration_types.specs.Contents.{IsContent}
use Rattle.migration_types.specs.Limits.{most_pages, most_cells, most_records}
use Rattle.migration_types.specs.Extents.{Extent}
use Rattle.page_stream.specs.Packets.{number_of}
use Rattle.page_stream.specs.declared.Packet.{Packet}
use Rattle.page_stream.specs.declared.Packet.TheVariants.{State as StatePacket, Page as PagePacket, Want as WantPacket, All as AllPacket}

-- a number of 4 bytes
abbrev pub number_bytes : ℕ → List ℕ
number_bytes n = to_be_bytes w32 n

-- a cell of 8 bytes
abbrev pub cell_bytes : ℕ → List ℕ
cell_bytes n = to_be_bytes w64 n

-- the kind byte
abbrev pub kind_of : Packet → ℕ
kind_of (StatePacket number released) = 1
kind_of (PagePacket number page contents) = 2
kind_of (WantPacket number page) = 3
kind_of (AllPacket number) = 4

-- the fields after the record number
abbrev pub fields_of : Packet → List ℕ
fields_of (StatePacket number released) = number_bytes (length released) ++ flat_map number_bytes released
fields_of (PagePacket number page contents) = number_bytes page ++ flat_map cell_bytes contents
fields_of (WantPacket number page) = number_bytes page
fields_of (AllPacket number) = []

-- what the length counts
abbrev pub body_of : Packet → List ℕ
body_of p = kind_of p ∷ (number_bytes (number_of p) ++ fields_of p)

-- all bytes of a packet
abbrev pub packet_bytes : Packet → List ℕ
packet_bytes p = number_bytes (length (body_of p)) ++ body_of p

-- the numbers rise, the first is at least `from`, and all are below `limit`
abbrev pub Rises : ℕ → ℕ → List ℕ → Type 0
Rises from limit [] = Unit {0}
Rises from limit (page ∷ pages) = (from ≤ page) × (page < limit) × Rises (page + 1) limit pages

-- the fields are within the machine
abbrev pub FieldsFit : Extent → Packet → Type 0
FieldsFit e (StatePacket number released) = Rises 0 e.pages released
FieldsFit e (PagePacket number page contents) = (page < e.pages) × IsContent e.cells contents
FieldsFit e (WantPacket number page) = page < e.pages
FieldsFit e (AllPacket number) = Unit {0}

-- a packet that a machine's migration may send
pub record Fits (e : Extent) (p : Packet) : Type 0 where
  pub number : number_of p < most_records
  pub fields : FieldsFit e p

-- no packet of the machine has these bytes after its length
abbrev pub IsNoBody : Extent → List ℕ → Type 0
IsNoBody e body = (p : Packet) → Fits e p → body ≡ body_of p → ⊥

-- it has no more pages and cells than the largest machine has
abbrev pub IsShort : Packet → Type 0
IsShort (StatePacket number released) = length released ≤ most_pages
IsShort (PagePacket number page contents) = length contents ≤ most_cells
IsShort (WantPacket number page) = Unit {0}
IsShort (AllPacket number) = Unit {0}
