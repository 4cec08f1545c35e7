-- The pager's book as contracts see it, and what follows from its own log.
use Rattle.std.specs.Prelude.{◌≡◌, ℕ, ◌<◌, ◌≤◌, Bool, true, List, [], length, Option, Some, None, slice_get}
use Rattle.std.specs.List.{AllByRecursion, list_any}
use Rattle.migration_types.specs.declared.records.PagerRec.{PagerRec}
use Rattle.migration_types.specs.declared.records.PagerRec.TheVariants.{Got, Ready, Want, All}
use Rattle.migration_types.specs.Extents.{Extent}
use Rattle.migration_types.specs.Limits.{most_records}
use Rattle.page_store.specs.Tables.{Values, values}
use Rattle.audit_model.specs.Shape.{is_placement_of, is_taking, passes}
use Rattle.fault_queue.specs.Waiting.{Waiting}
use Rattle.page_stream.specs.declared.Packet.{Packet}
use Rattle.page_stream.specs.declared.Packet.TheVariants.{State as StatePacket, Page as PagePacket, Want as WantPacket, All as AllPacket}
use Rattle.target_side.specs.declared.incoming.Incoming.{Incoming}
use Rattle.target_side.specs.PagerPart.{PagerPart}

-- the pager's book, with its maps as tables that have a value for each page
pub record PagerLists : Type 0 where
  pub geometry : Extent
  pub log : List PagerRec
  pub released : Option (List ℕ)
  pub placed : Values Bool
  pub settled : Values Bool
  pub inbox : List Incoming
  pub outbox : List Packet
  pub waiting : List Waiting
  pub wants : Values (Option ℕ)

-- the part of the events that the book stands for, which has maps
abbrev pub part_of : PagerLists → PagerPart
part_of b = record {
  geometry = b.geometry;
  log = b.log;
  released = b.released;
  placed = values b.placed;
  settled = values b.settled;
  inbox = b.inbox;
  outbox = b.outbox;
  waiting = b.waiting;
  wants = values b.wants;
}

-- a packet that the source of this machine sends has its pages and its cells
abbrev pub IsPacketOf : Extent → Packet → Type 0
IsPacketOf e (StatePacket n released) = AllByRecursion (λ p. p < e.pages) released
IsPacketOf e (PagePacket n p content) = (p < e.pages) × (length content ≡ e.cells)
IsPacketOf e (WantPacket n p) = Unit {0}
IsPacketOf e (AllPacket n) = Unit {0}

-- the log is empty until the state has come, and then begins with it
abbrev pub HasBegun : Option (List ℕ) → List PagerRec → Type 0
HasBegun None log = log ≡ []
HasBegun (Some released) log = ((down : ℕ) × (slice_get log 0 ≡ Some (Got down))) × (slice_get log 1 ≡ Some Ready)

-- a page of the machine, which a record of this log took
pub record HasCome (e : Extent) (log : List PagerRec) (x : Incoming) : Type 0 where
  pub page : x.page < e.pages
  pub cells : length x.contents ≡ e.cells
  pub got : passes is_taking (slice_get log x.got) ≡ true

-- the packet of the record that it names
abbrev pub IsSaid : Extent → List PagerRec → Packet → Type 0
IsSaid e log (StatePacket n released) = ⊥
IsSaid e log (PagePacket n p content) = ⊥
IsSaid e log (WantPacket n p) = (p < e.pages) × (slice_get log n ≡ Some (Want p))
IsSaid e log (AllPacket n) = slice_get log n ≡ Some All

-- a page of the machine that was wanted
abbrev pub IsWanted : Extent → (ℕ → Option ℕ) → Waiting → Type 0
IsWanted e wants x = (x.page < e.pages) × ((n : ℕ) × (wants x.page ≡ Some n))

-- The book says what its log says: a page is marked as placed exactly when the log places it, what has come and what is
-- asked for names its record, and each page that is waited for was wanted.
pub record IsTied (b : PagerPart) : Type 0 where
  pub inbox : AllByRecursion (HasCome b.geometry b.log) b.inbox
  pub outbox : AllByRecursion (IsSaid b.geometry b.log) b.outbox
  pub wants : (p n : ℕ) → b.wants p ≡ Some n → (p < b.geometry.pages) × (slice_get b.log n ≡ Some (Want p))
  pub waiting : AllByRecursion (IsWanted b.geometry b.wants) b.waiting
  pub placed : (p : ℕ) → b.placed p ≡ list_any (is_placement_of p) b.log

-- each `want` of a page is the one that the book has for the page, or an earlier one
abbrev pub AreLast : List PagerRec → (ℕ → Option ℕ) → Type 0
AreLast log wants = (p m : ℕ) → slice_get log m ≡ Some (Want p) → (n : ℕ) × ((wants p ≡ Some n) × (m ≤ n))

-- The log is within its limit and begins with the state. The book says what the log says, and it has the last `want` of
-- each page that was ever wanted.
pub record IsKept (b : PagerPart) : Type 0 where
  pub few : length b.log ≤ most_records
  pub begun : HasBegun b.released b.log
  pub tied : IsTied b
  pub last : AreLast b.log b.wants
