-- The pager's book, and its part of each event. Some events are parts of both the pager's and the target's book.
use Rattle.std.specs.Prelude.{ℕ, ◌==◌, Bool, false, ◌||◌, List, [], ◌∷◌, ◌++◌, length, Option, Some, None, if◌then◌else◌}
use Rattle.std.specs.List.{range_with_len, list_any}
use Rattle.migration_types.specs.declared.records.PagerRec.{PagerRec}
use Rattle.migration_types.specs.declared.records.PagerRec.TheVariants.{Got, Pull, Ready, Fault, Join, Want, Place, Zero, Skip, All}
use Rattle.migration_types.specs.Extents.{Extent}
use Rattle.migration_types.specs.PageSets.{Pages, no_page, with_page}
use Rattle.page_store.specs.Tables.{all_at, with_value}
use Rattle.fault_queue.specs.Waiting.{Waiting, is_asked, is_waiting, waiting_for, joined, entry, without}
use Rattle.page_stream.specs.declared.Packet.{Packet}
use Rattle.page_stream.specs.declared.Packet.TheVariants.{State as StatePacket, Page as PagePacket, Want as WantPacket, All as AllPacket}
use Rattle.residency.specs.Placements.{is_resident}
use Rattle.target_side.specs.TargetPart.{TargetPart, settled as with_settled, resumes, with_placed, with_zeroed, with_misses}
use Rattle.target_side.specs.declared.access.UntakenMiss.{UntakenMiss}
use Rattle.target_side.specs.declared.incoming.Incoming.{Incoming}

-- The pager's log, the pages that the source released once the state has come, the placed pages, those that the guest
-- released at the target before they came, as far as they are cancelled, the pages that have come, the wants that are
-- not offered yet, who waits for which page, and the number of each page's last `want`.
pub record PagerPart : Type 0 where
  pub geometry : Extent
  pub log : List PagerRec
  pub released : Option (List ℕ)
  pub placed : Pages
  pub settled : Pages
  pub inbox : List Incoming
  pub outbox : List Packet
  pub waiting : List Waiting
  pub wants : ℕ → Option ℕ

abbrev pub new_pager : Extent → PagerPart
new_pager geometry = record {
  geometry = geometry;
  log = [];
  released = None;
  placed = no_page;
  settled = no_page;
  inbox = [];
  outbox = [];
  waiting = [];
  wants = all_at None;
}

-- the pager's and the target's book after a call on both, and the virtual processors that it wakes
pub record Paged : Type 0 where
  pub pager : PagerPart
  pub target : TargetPart
  pub woken : List ℕ

-- the pager's book after a call, and the packet to offer
pub record Sent : Type 0 where
  pub book : PagerPart
  pub packet : Option Packet

-- PagerPop
abbrev pub pops_first : ℕ → Packet → PagerPart → PagerPart
pops_first down (StatePacket n released) b = record b { log = (b.log ++ Got down ∷ []) ++ Ready ∷ []; released = Some released }
pops_first down (PagePacket n p content) b = b
pops_first down (WantPacket n p) b = b
pops_first down (AllPacket n) b = b

-- a packet after the state has come, recorded by this receipt: a page is taken, and another state is dropped
abbrev pub takes : PagerRec → Packet → PagerPart → PagerPart
takes r (StatePacket n released) b = record b { log = (b.log ++ r ∷ []) ++ Skip (length b.log) ∷ [] }
takes r (PagePacket n p content) b = record b {
  log = b.log ++ r ∷ [];
  inbox = b.inbox ++ (record { got = length b.log; page = p; contents = content }) ∷ [];
}
takes r (WantPacket n p) b = b
takes r (AllPacket n) b = b

abbrev pub pops_by : Option (List ℕ) → ℕ → Packet → PagerPart → PagerPart
pops_by None down packet b = pops_first down packet b
pops_by (Some released) down packet b = takes (Got down) packet b

abbrev pub pager_pop : ℕ → Packet → PagerPart → PagerPart
pager_pop down packet b = pops_by b.released down packet b

-- PagerPull: what comes over the lane before the state is dropped
abbrev pub pulls_by : Option (List ℕ) → ℕ → Packet → PagerPart → PagerPart
pulls_by None down packet b = b
pulls_by (Some released) down packet b = takes (Pull down) packet b

abbrev pub pager_pull : ℕ → Packet → PagerPart → PagerPart
pager_pull down packet b = pulls_by b.released down packet b

-- the pages that the guest released at the target before they came are cancelled: nobody waits for them any more
abbrev pub settles : List ℕ → PagerPart → PagerPart
settles [] b = b
settles (p ∷ ps) b = settles ps (record b { settled = with_page p b.settled; waiting = without p b.waiting })

-- PagerFault
abbrev pub is_listed : ℕ → List ℕ → Bool
is_listed page pages = list_any (λ p. p == page) pages

abbrev pub is_released : Option (List ℕ) → ℕ → Bool
is_released None page = false
is_released (Some released) page = is_listed page released

-- the next record wants a page
abbrev pub wants_page : ℕ → PagerPart → PagerPart
wants_page p b = record b { log = b.log ++ Want p ∷ []; wants = with_value p (Some (length b.log)) b.wants }

abbrev pub fault_new : ℕ → ℕ → PagerPart → PagerPart
fault_new p v b = record (wants_page p b) {
  outbox = b.outbox ++ WantPacket (length b.log) p ∷ [];
  waiting = b.waiting ++ entry p v ∷ [];
}

abbrev pub fault_join : ℕ → ℕ → Option ℕ → PagerPart → PagerPart
fault_join p v None b = b
fault_join p v (Some want) b = record b { log = b.log ++ Join want ∷ []; waiting = joined p v b.waiting }

abbrev pub zeroes : ℕ → PagerPart → TargetPart → Paged
zeroes p b t = record {
  pager = record b { log = b.log ++ Zero p ∷ []; placed = with_page p b.placed };
  target = with_zeroed p (length b.log) t;
  woken = [];
}

abbrev pub fault_absent : ℕ → ℕ → PagerPart → TargetPart → Paged
fault_absent p v b t =
    if is_waiting v b.waiting then record { pager = b; target = t; woken = [] }
    else if is_released b.released p then zeroes p b t
    else if is_asked p b.waiting then record { pager = fault_join p v (b.wants p) b; target = t; woken = [] }
    else record { pager = fault_new p v b; target = t; woken = [] }

abbrev pub fault_at : ℕ → ℕ → PagerPart → TargetPart → Paged
fault_at p v b t = if is_resident (t.placed p) (t.freed p) then record { pager = b; target = t; woken = [] } else fault_absent p v b t

abbrev pub faults : List UntakenMiss → PagerPart → TargetPart → Paged
faults [] b t = record { pager = b; target = t; woken = [] }
faults (x ∷ rest) b t = fault_at x.page x.vcpu (record b { log = b.log ++ Fault x.number ∷ [] }) (with_misses rest t)

-- before the state has come, no miss is taken
abbrev pub faults_by : Option (List ℕ) → List UntakenMiss → PagerPart → TargetPart → Paged
faults_by None misses b t = record { pager = b; target = t; woken = [] }
faults_by (Some released) misses b t = faults misses b t

abbrev pub next_fault : PagerPart → TargetPart → Paged
next_fault b t = faults_by b.released t.misses (settles t.unsettled b) (with_settled t)

-- PagerFlush
abbrev pub flushes : List Packet → PagerPart → Sent
flushes [] b = record { book = b; packet = None }
flushes (packet ∷ rest) b = record { book = record b { outbox = rest }; packet = Some packet }

abbrev pub pager_flush : PagerPart → Sent
pager_flush b = flushes b.outbox b

-- PagerDeliver
abbrev pub places : Incoming → PagerPart → TargetPart → Paged
places x b t = record {
  pager = record b {
    log = b.log ++ Place x.page x.got x.contents ∷ [];
    placed = with_page x.page b.placed;
    waiting = without x.page b.waiting;
  };
  target = with_placed x.page (length b.log) x.contents t;
  woken = waiting_for x.page b.waiting;
}

abbrev pub delivers_at : Incoming → PagerPart → TargetPart → Paged
delivers_at x b t = if is_resident (t.placed x.page) (t.freed x.page) then record { pager = record b { log = b.log ++ Skip x.got ∷ [] }; target = t; woken = [] } else places x b t

abbrev pub delivers_next : List Incoming → PagerPart → TargetPart → Paged
delivers_next [] b t = record { pager = b; target = t; woken = [] }
delivers_next (x ∷ rest) b t = delivers_at x (record b { inbox = rest }) t

abbrev pub delivers_by : Option (List ℕ) → PagerPart → TargetPart → Paged
delivers_by None b t = record { pager = b; target = t; woken = [] }
delivers_by (Some released) b t =
    if t.is_resumed then delivers_next b.inbox b t else record { pager = b; target = resumes t; woken = [] }

abbrev pub deliver : PagerPart → TargetPart → Paged
deliver b t = delivers_by b.released (settles t.unsettled b) (with_settled t)

-- PagerTick: the least owed page that is neither placed nor cancelled
abbrev pub first_absent : List ℕ → List ℕ → Pages → Option ℕ
first_absent [] released there = None
first_absent (p ∷ ps) released there = if is_listed p released || there p then first_absent ps released there else Some p

-- the page that has been waited for longest, or this one
abbrev pub oldest : List Waiting → ℕ → ℕ
oldest [] p = p
oldest (x ∷ xs) p = x.page

abbrev pub ticks_at : Option ℕ → PagerPart → Sent
ticks_at None b = record { book = record b { log = b.log ++ All ∷ [] }; packet = Some (AllPacket (length b.log)) }
ticks_at (Some p) b = record { book = wants_page (oldest b.waiting p) b; packet = Some (WantPacket (length b.log) (oldest b.waiting p)) }

abbrev pub ticks : Option (List ℕ) → PagerPart → Sent
ticks None b = record { book = b; packet = None }
ticks (Some released) b = ticks_at (first_absent (range_with_len 0 b.geometry.pages) released (λ p. b.placed p || b.settled p)) b

abbrev pub pager_tick : PagerPart → Sent
pager_tick b = ticks b.released b
