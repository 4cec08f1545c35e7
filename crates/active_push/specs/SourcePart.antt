-- The source's book, and its part of each event.
use Rattle.std.specs.Prelude.{ℕ, ◌==◌, Bool, true, false, not, ◌&&◌, ◌||◌, nat_lt, List, [], ◌∷◌, ◌++◌, length, Option, Some, None, is_some, if◌then◌else◌}
use Rattle.std.specs.List.{range_with_len, list_any}
use Rattle.migration_types.specs.declared.records.SourceRec.{SourceRec}
use Rattle.migration_types.specs.declared.records.SourceRec.TheVariants.{Halted, State, Send, Again, Ask, Done}
use Rattle.migration_types.specs.Extents.{Extent}
use Rattle.migration_types.specs.Memory.{Memory, page_of}
use Rattle.migration_types.specs.PageSets.{Pages}
use Rattle.page_store.specs.Tables.{all_at, with_value}
use Rattle.balloon_ledger.specs.Released.{pages_below}
use Rattle.bubbling.specs.Bubbling.{Ring, first_ring, in_turn, turned, faulted, distance}
use Rattle.page_stream.specs.declared.Packet.{Packet}
use Rattle.page_stream.specs.declared.Packet.TheVariants.{State as StatePacket, Page as PagePacket, Want as WantPacket, All as AllPacket}

-- The machine as the guest left it, the source's log, the number of each page's `send`, the pivots, whether the source
-- was asked for anything, and whether it was told that all pages are placed.
pub record SourcePart : Type 0 where
  pub geometry : Extent
  pub log : List SourceRec
  pub memory : Memory
  pub ledger : Pages
  pub sent : ℕ → Option ℕ
  pub ring : Ring
  pub was_asked : Bool
  pub is_done : Bool

-- the book after a call, and the packet to offer
pub record Offer : Type 0 where
  pub book : SourcePart
  pub packet : Option Packet

-- no packet
abbrev pub silent : SourcePart → Offer
silent b = record { book = b; packet = None }

abbrev pub state_packet : ℕ → SourcePart → Packet
state_packet number b = StatePacket number (pages_below b.geometry.pages b.ledger)

-- the book after the halt, which is this record of the guest
abbrev pub halted_source : Extent → Memory → Pages → ℕ → ℕ → SourcePart
halted_source geometry memory ledger most halt = record {
  geometry = geometry;
  log = Halted halt ∷ State ∷ [];
  memory = memory;
  ledger = ledger;
  sent = all_at None;
  ring = first_ring most;
  was_asked = false;
  is_done = false;
}

-- whether a page is owed: the machine has it, and it was not released at the halt
abbrev pub owes : SourcePart → ℕ → Bool
owes b page = nat_lt page b.geometry.pages && not (b.ledger page)

-- the owed pages that are not sent
abbrev pub unsent : SourcePart → Pages
unsent b page = owes b page && not (is_some (b.sent page))

-- whether one page goes before another: it is nearer to the pivot, or as near with the greater number
abbrev pub goes_before : ℕ → ℕ → ℕ → Bool
goes_before pivot page other =
    nat_lt (distance pivot page) (distance pivot other) || ((distance pivot page == distance pivot other) && nat_lt other page)

abbrev pub nearer : ℕ → ℕ → Option ℕ → ℕ
nearer pivot page None = page
nearer pivot page (Some other) = if goes_before pivot page other then page else other

-- the page of the set, among these, that goes before the others
abbrev pub nearest : ℕ → Pages → List ℕ → Option ℕ
nearest pivot set [] = None
nearest pivot set (page ∷ pages) = if set page then Some (nearer pivot page (nearest pivot set pages)) else nearest pivot set pages

-- a page becomes a pivot, unless it is one
abbrev pub with_pivot : ℕ → Ring → Ring
with_pivot page ring = if list_any (λ pivot. pivot == page) ring.pivots then ring else faulted page ring

-- a page is sent for the first time
abbrev pub sends : ℕ → SourcePart → Offer
sends page b = record {
  book = record b { log = b.log ++ Send page (page_of b.geometry.cells b.memory page) ∷ []; sent = with_value page (Some (length b.log)) b.sent };
  packet = Some (PagePacket (length b.log) page (page_of b.geometry.cells b.memory page));
}

-- a page is sent again, whose `send` is this record
abbrev pub repeats : ℕ → ℕ → SourcePart → Offer
repeats send page b = record {
  book = record b { log = b.log ++ Again send ∷ [] };
  packet = Some (PagePacket (length b.log) page (page_of b.geometry.cells b.memory page));
}

-- Push
abbrev pub pushes : Option ℕ → SourcePart → Offer
pushes None b = silent b
pushes (Some page) b = sends page (record b { ring = turned b.ring })

abbrev pub source_push : SourcePart → Offer
source_push b = if b.is_done then silent b else pushes (nearest (in_turn b.ring) (unsent b) (range_with_len 0 b.geometry.pages)) b

-- Serve
abbrev pub asks : ℕ → SourcePart → SourcePart
asks up b = record b { log = b.log ++ Ask up ∷ []; was_asked = true }

abbrev pub serves_owed : ℕ → Option ℕ → SourcePart → Offer
serves_owed page None b = sends page b
serves_owed page (Some send) b = repeats send page b

abbrev pub serves_want : ℕ → SourcePart → Offer
serves_want page b = if owes b page then serves_owed page (b.sent page) (record b { ring = with_pivot page b.ring }) else silent b

abbrev pub serves_all : SourcePart → Offer
serves_all b = if b.is_done then silent b else record { book = record b { log = b.log ++ Done ∷ []; is_done = true }; packet = None }

abbrev pub source_serve : ℕ → Packet → SourcePart → Offer
source_serve up (StatePacket number released) b = silent b
source_serve up (PagePacket number page content) b = silent b
source_serve up (WantPacket number page) b = serves_want page (asks up b)
source_serve up (AllPacket number) b = serves_all (asks up b)

-- SourceTick
abbrev pub source_tick : SourcePart → Offer
source_tick b =
    if b.was_asked
    then silent b
    else record { book = record b { log = b.log ++ Again 1 ∷ [] }; packet = Some (state_packet (length b.log) b) }
