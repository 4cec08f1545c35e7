-- What the books and the recording keep, from the halt on.
use Rattle.active_push.specs.SourcePart.{SourcePart}
use Rattle.audit_model.proofs.Consistent.{there}
use Rattle.audit_model.specs.Faults.{IsOver}
use Rattle.audit_model.specs.Flat.{flat, freed as was_freed, home}
use Rattle.audit_model.specs.Mergings.{IsMerging}
use Rattle.audit_model.specs.Shape.{earlier, is_first_send, is_halt, is_placement_of, is_resume, is_send_of, is_taking, lane_named, link_named, pager_named, source_named, taken_sending}
use Rattle.audit_model.specs.declared.home.Home.{Home}
use Rattle.audit_model.specs.declared.home.Home.TheVariants.{AtTarget, Nowhere}
use Rattle.balloon_ledger.specs.Released.{pages_below, released}
use Rattle.bubbling.specs.Bubbling.{Ring}
use Rattle.fault_queue.specs.Waiting.{Waiting}
use Rattle.link_book.specs.LinkPart.{LinkPart}
use Rattle.link_book.specs.declared.Arrival.{Arrival}
use Rattle.migration_types.specs.Extents.{Extent}
use Rattle.migration_types.specs.Memory.{Memory}
use Rattle.migration_types.specs.PageSets.{Pages}
use Rattle.migration_types.specs.Receipts.{Name, lane_receipt, link_receipt, pager_receipt, source_receipt}
use Rattle.migration_types.specs.Sessions.{HasLane, Recorded}
use Rattle.migration_types.specs.declared.records.GuestRec.{GuestRec}
use Rattle.migration_types.specs.declared.records.GuestRec.TheVariants.{Miss, See}
use Rattle.migration_types.specs.declared.records.LaneRec.{LaneRec}
use Rattle.migration_types.specs.declared.records.LaneRec.TheVariants.{Down as LaneDown}
use Rattle.migration_types.specs.declared.records.LinkRec.{LinkRec}
use Rattle.migration_types.specs.declared.records.LinkRec.TheVariants.{Down, Up}
use Rattle.migration_types.specs.declared.records.LogName.TheVariants.{Guest, Lane, Link, Pager, Source as FromSource}
use Rattle.migration_types.specs.declared.records.PagerRec.{PagerRec}
use Rattle.migration_types.specs.declared.records.PagerRec.TheVariants.{All, Ready, Want}
use Rattle.migration_types.specs.declared.records.SourceRec.{SourceRec}
use Rattle.migration_types.specs.declared.records.SourceRec.TheVariants.{Again, Done, Send, State}
use Rattle.migration_types.specs.declared.version.Version.{Version}
use Rattle.page_stream.specs.Packets.{number_of}
use Rattle.page_stream.specs.declared.Packet.{Packet}
use Rattle.page_stream.specs.declared.Packet.TheVariants.{All as AllPacket, Page as PagePacket, State as StatePacket, Want as WantPacket}
use Rattle.migration_model.proofs.Cleans.{IsClean, IsFrozen, PagerClean, SourceClean, links_cleans, over_links, over_pager, over_source, pager_cleans, source_cleans}
use Rattle.migration_model.proofs.Grows.{Extends, IsThere, guest_more, lane_extends, lane_merges, lane_more, link_extends, link_merges, link_more, pager_extends, pager_merges, pager_more, source_extends, source_merges, source_more, taken_stays}
use Rattle.migration_model.proofs.Limits.{IsLimited, IsWide, PagerWithin, SourceWithin, links_limits, no_back, pager_limits, source_limits}
use Rattle.migration_model.proofs.Lists.{AllAt, Index, all_push, each_weaker, index_other}
use Rattle.migration_model.proofs.Orders.{order_guest, order_guest_two, order_lane, order_link, order_none, order_pager, order_pager_two, order_source, order_source_two}
use Rattle.migration_model.proofs.Shapes.{IsNamed, IsStarted, goes_on, links_shapes, links_starts, pager_goes_on, pager_shapes, pager_starts, source_shapes, source_starts}
use Rattle.migration_model.specs.Books.{BooksAfter, Vcpu, VcpuFits, session_after, new_names}
use Rattle.residency.specs.Placements.{is_resident}
use Rattle.std.proofs.Common.{Bool, List, None, Option, Some, [], ap, false, inl, inr, length, refl, subst, sym, true, ℕ, ◌++◌, ◌<◌, ◌∙◌, ◌∷◌, ◌≡◌, ◌≤◌, ◌⊎◌}
use Rattle.std.proofs.lemmas.Option.{slice_get_within}
use Rattle.std.specs.List.{AllByRecursion}
use Rattle.std.specs.Prelude.{is_some, slice_get}
use Rattle.target_side.specs.TargetPart.{TargetPart}
use Rattle.target_side.specs.declared.access.UntakenMiss.{UntakenMiss}
use Rattle.target_side.specs.PagerPart.{PagerPart}
use Rattle.target_side.specs.declared.incoming.Incoming.{Incoming}

-- source record n is the state, or repeats it
abbrev pub IsStateNumber : Recorded → ℕ → Type 0
IsStateNumber s n = (slice_get s.source n ≡ Some State) ⊎ ((k : ℕ) × (slice_get s.source n ≡ Some (Again k)) × (slice_get s.source k ≡ Some State))

-- source record n sends this page with this content, or repeats the record that does
pub record IsPageNumber (s : Recorded) (n page : ℕ) (content : List ℕ) : Type 0 where
  pub send : ℕ
  pub sent : slice_get s.source send ≡ Some (Send page content)
  pub is_it : (n ≡ send) ⊎ (slice_get s.source n ≡ Some (Again send))

abbrev pub DownFact : Recorded → List ℕ → Packet → Type 0
DownFact s released (StatePacket n rel) = (rel ≡ released) × IsStateNumber s n
DownFact s released (PagePacket n page content) = IsPageNumber s n page content
DownFact s released (WantPacket n page) = ⊥
DownFact s released (AllPacket n) = ⊥

abbrev pub UpFact : Recorded → Packet → Type 0
UpFact s (StatePacket n rel) = ⊥
UpFact s (PagePacket n page content) = ⊥
UpFact s (WantPacket n page) = slice_get s.pager n ≡ Some (Want page)
UpFact s (AllPacket n) = slice_get s.pager n ≡ Some All

-- a packet of the lane, which the second version alone has
abbrev pub LaneFact : Recorded → List ℕ → Packet → Type 0
LaneFact s released packet = HasLane s.version × DownFact s released packet

-- an arrival, by the record with its number of this log
abbrev pub HasArrived : {R : Type 0} → (ℕ → R) → List R → (Packet → Type 0) → Arrival → Type 0
HasArrived names log P x = (slice_get log x.number ≡ Some (names (number_of x.packet))) × P x.packet

-- the packets that are under way, and those that have arrived
pub record ChannelKept {R : Type 0} (names : ℕ → R) (log : List R) (P : Packet → Type 0) (line : List Packet) (arrivals : List Arrival) : Type 0 where
  pub under_way : AllByRecursion P line
  pub come : AllByRecursion (HasArrived names log P) arrivals

abbrev pub DownArrived : Recorded → List ℕ → Arrival → Type 0
DownArrived s released = HasArrived Down s.link (DownFact s released)

abbrev pub UpArrived : Recorded → Arrival → Type 0
UpArrived s = HasArrived Up s.link (UpFact s)

abbrev pub LaneArrived : Recorded → List ℕ → Arrival → Type 0
LaneArrived s released = HasArrived LaneDown s.lane (LaneFact s released)

-- a page of the inbox: the record by which it was taken, the source's record that this delivers, and what that one names
pub record HasCome (s : Recorded) (x : Incoming) : Type 0 where
  pub taking : PagerRec
  pub number : ℕ
  pub got : slice_get s.pager x.got ≡ Some taking
  pub takes : is_taking taking ≡ true
  pub came : taken_sending s taking ≡ Some number
  pub is_page : IsPageNumber s number x.page x.contents

abbrev pub IsReady : Recorded → Type 0
IsReady s = slice_get s.pager 1 ≡ Some Ready

abbrev pub HasMissed : Recorded → UntakenMiss → Type 0
HasMissed s x = (slice_get s.guest x.number ≡ Some (Miss x.vcpu x.page)) × IsReady s

-- somebody waits for a page that there is
abbrev pub IsWaitedFor : Recorded → Waiting → Type 0
IsWaitedFor s x = x.page < s.geometry.pages

pub record LinkKept (s : Recorded) (released : List ℕ) (link : LinkPart) : Type 0 where
  pub down : ChannelKept Down s.link (DownFact s released) link.down link.down_arrivals
  pub up : ChannelKept Up s.link (UpFact s) link.up link.up_arrivals
  pub lane : ChannelKept LaneDown s.lane (LaneFact s released) link.lane link.lane_arrivals

pub record PagerKept (s : Recorded) (released : List ℕ) (pager : PagerPart) : Type 0 where
  pub geometry : pager.geometry ≡ s.geometry
  pub unready : pager.released ≡ None → s.pager ≡ []
  pub ready : (rel : List ℕ) → pager.released ≡ Some rel → (rel ≡ released) × IsReady s
  pub inbox : AllByRecursion (HasCome s) pager.inbox
  pub outbox : AllByRecursion (UpFact s) pager.outbox
  pub waiting : AllByRecursion (IsWaitedFor s) pager.waiting
  pub wants : (p k : ℕ) → pager.wants p ≡ Some k → slice_get s.pager k ≡ Some (Want p)

pub record SourceKept (s : Recorded) (book : SourcePart) : Type 0 where
  pub sends : Index is_send_of book.sent s.source
  pub state : slice_get s.source 1 ≡ Some State
  pub wide : IsWide book.memory

abbrev pub away_home : Bool → Home
away_home true = AtTarget
away_home false = Nowhere

pub record PhaseKept (s : Recorded) (resumed : Bool) : Type 0 where
  pub halted : earlier is_halt s.guest (length s.guest) ≡ true
  pub resumes : earlier is_resume s.guest (length s.guest) ≡ resumed
  pub home_is : home s (length s.guest) ≡ away_home resumed

-- the page was placed, or it was absent when the guest released it at the target
abbrev pub is_there : TargetPart → ℕ → Bool
is_there target p = is_resident (target.placed p) (target.freed p)

pub record TargetKept (s : Recorded) (memory : Memory) (target : TargetPart) : Type 0 where
  pub places : Index is_placement_of target.placed s.pager
  pub frontier : (k : ℕ) → target.frontier ≡ Some k → (n : ℕ) × (slice_get s.guest n ≡ Some (See k))
  pub frames : (p c : ℕ) → is_there target p ≡ true → c < s.geometry.cells → target.memory p c ≡ flat s (length s.guest) p c
  pub untouched : (p c : ℕ) → is_there target p ≡ false → flat s (length s.guest) p c ≡ memory p c
  pub released : (p : ℕ) → target.freed p ≡ true → (target.placed p ≡ None) × (was_freed s (length s.guest) p ≡ true)
  pub over : (p : ℕ) → IsOver s p → target.freed p ≡ true
  pub unsettled : AllByRecursion (λ p. target.freed p ≡ true) target.unsettled
  pub misses : AllByRecursion (HasMissed s) target.misses
  pub wide : IsWide target.memory

-- each owed page is resident
abbrev pub IsComplete : ℕ → Pages → Pages → Type 0
IsComplete pages ledger there = (p : ℕ) → p < pages → ledger p ≡ false → there p ≡ true

pub record EndKept (s : Recorded) (ledger : Pages) (there : Pages) : Type 0 where
  pub all : (n : ℕ) → slice_get s.pager n ≡ Some All → IsComplete s.geometry.pages ledger there
  pub done : (n : ℕ) → slice_get s.source n ≡ Some Done → IsComplete s.geometry.pages ledger there

pub record VcpusKept (version : Version) (e : Extent) (vcpus : List Vcpu) : Type 0 where
  pub few : length vcpus ≤ 64
  pub each : AllByRecursion (VcpuFits version e) vcpus

abbrev pub released_of : BooksAfter → List ℕ
released_of a = pages_below a.source.geometry.pages a.source.ledger

pub record AwayKept (o : List Name) (a : BooksAfter) : Type 0 where
  pub named : IsNamed (session_after a)
  pub started : IsStarted (session_after a)
  pub merges : IsMerging (session_after a) o
  pub clean : IsClean (session_after a) a.source.memory a.source.ledger
  pub frozen : IsFrozen (session_after a) a.source.memory a.source.ledger
  pub limits : IsLimited (session_after a)
  pub phase : PhaseKept (session_after a) a.target.is_resumed
  pub resumed_ready : a.target.is_resumed ≡ true → IsReady (session_after a)
  pub source : SourceKept (session_after a) a.source
  pub link : LinkKept (session_after a) (released_of a) a.link
  pub pager : PagerKept (session_after a) (released_of a) a.pager
  pub placed : (p : ℕ) → a.pager.placed p ≡ is_some (a.target.placed p)
  pub settled : (p : ℕ) → a.pager.settled p ≡ true → a.target.freed p ≡ true
  pub target : TargetKept (session_after a) a.source.memory a.target
  pub ends : EndKept (session_after a) a.source.ledger (is_there a.target)
  pub vcpus : VcpusKept a.version a.source.geometry a.vcpus
  pub lanes : a.has_lane ≡ true → HasLane a.version

-- the books after an event, with the order that it leaves
abbrev pub Arrives : List Name → BooksAfter → BooksAfter → Type 0
Arrives o a b = AwayKept (o ++ new_names (session_after a) (session_after b)) b

-- what rests on records stays where records are added
pub channel_stays : {R : Type 0} (names : ℕ → R) (old new : List R) (P Q : Packet → Type 0) (line : List Packet) (arrivals : List Arrival) →
    ((n : ℕ) (r : R) → slice_get old n ≡ Some r → slice_get new n ≡ Some r) → ((packet : Packet) → P packet → Q packet) →
    ChannelKept names old P line arrivals → ChannelKept names new Q line arrivals
channel_stays names old new P Q line arrivals stays weaker k = record {
  under_way = each_weaker P Q weaker line k.under_way;
  come = each_weaker (HasArrived names old P) (HasArrived names new Q) (λ y h. (stays y.number _ h.0, weaker y.packet h.1)) arrivals k.come;
}

module _ (s t : Recorded) (x : Extends s t) where
  page_number_stays : (n p : ℕ) (content : List ℕ) → IsPageNumber s n p content → IsPageNumber t n p content
  page_number_stays n p content h = record { send = h.send; sent = x.source h.send _ h.sent; is_it = is_it h.is_it }
    where
      is_it : (n ≡ h.send) ⊎ (slice_get s.source n ≡ Some (Again h.send)) → (n ≡ h.send) ⊎ (slice_get t.source n ≡ Some (Again h.send))
      is_it (inl e) = inl e
      is_it (inr e) = inr (x.source n _ e)

  state_number_stays : (n : ℕ) → IsStateNumber s n → IsStateNumber t n
  state_number_stays n (inl e) = inl (x.source n _ e)
  state_number_stays n (inr h) = inr (h.0, x.source n _ h.1, x.source h.0 _ h.2)

  pub down_fact_stays : (released : List ℕ) (packet : Packet) → DownFact s released packet → DownFact t released packet
  down_fact_stays released (StatePacket n rel) h = (h.0, state_number_stays n h.1)
  down_fact_stays released (PagePacket n p content) h = page_number_stays n p content h
  down_fact_stays released (WantPacket n p) h = h
  down_fact_stays released (AllPacket n) h = h

  pub up_fact_stays : (packet : Packet) → UpFact s packet → UpFact t packet
  up_fact_stays (StatePacket n rel) h = h
  up_fact_stays (PagePacket n p content) h = h
  up_fact_stays (WantPacket n p) h = x.pager n _ h
  up_fact_stays (AllPacket n) h = x.pager n _ h

  pub lane_fact_stays : (released : List ℕ) (packet : Packet) → LaneFact s released packet → LaneFact t released packet
  lane_fact_stays released packet h = (subst HasLane x.version h.0, down_fact_stays released packet h.1)

  pub has_come_stays : (y : Incoming) → HasCome s y → HasCome t y
  has_come_stays y h = record {
    taking = h.taking;
    number = h.number;
    got = x.pager y.got _ h.got;
    takes = h.takes;
    came = taken_stays s t x h.taking h.number h.came;
    is_page = page_number_stays h.number y.page y.contents h.is_page;
  }

  pub link_stays : (released : List ℕ) (link : LinkPart) → LinkKept s released link → LinkKept t released link
  link_stays released link k = record {
    down = channel_stays Down s.link t.link (DownFact s released) (DownFact t released) link.down link.down_arrivals x.link (down_fact_stays released) k.down;
    up = channel_stays Up s.link t.link (UpFact s) (UpFact t) link.up link.up_arrivals x.link up_fact_stays k.up;
    lane = channel_stays LaneDown s.lane t.lane (LaneFact s released) (LaneFact t released) link.lane link.lane_arrivals x.lane (lane_fact_stays released) k.lane;
  }

  pub ready_stays : IsReady s → IsReady t
  ready_stays h = x.pager 1 Ready h

  pub pager_stays : (released : List ℕ) (pager : PagerPart) → (pager.released ≡ None → t.pager ≡ []) → s.geometry ≡ t.geometry → PagerKept s released pager → PagerKept t released pager
  pager_stays released pager unready same k = record {
    geometry = k.geometry ∙ same;
    unready = unready;
    ready = λ rel e. let h = k.ready rel e in (h.0, ready_stays h.1);
    inbox = each_weaker (HasCome s) (HasCome t) has_come_stays pager.inbox k.inbox;
    outbox = each_weaker (UpFact s) (UpFact t) up_fact_stays pager.outbox k.outbox;
    waiting = each_weaker (IsWaitedFor s) (IsWaitedFor t) (λ y h. subst (λ (e : Extent). y.page < e.pages) same h) pager.waiting k.waiting;
    wants = λ p n e. x.pager n _ (k.wants p n e);
  }

  pub misses_stay : (misses : List UntakenMiss) → AllByRecursion (HasMissed s) misses → AllByRecursion (HasMissed t) misses
  misses_stay misses k = each_weaker (HasMissed s) (HasMissed t) (λ y h. (x.guest y.number _ h.0, ready_stays h.1)) misses k

  pub frontier_stays : (frontier : Option ℕ) → ((k : ℕ) → frontier ≡ Some k → (n : ℕ) × (slice_get s.guest n ≡ Some (See k))) → (k : ℕ) → frontier ≡ Some k → (n : ℕ) × (slice_get t.guest n ≡ Some (See k))
  frontier_stays frontier h k e = let w = h k e in (w.0, x.guest w.0 _ w.1)

pub not_new : {A : Type 0} (log : List A) (r y : A) {B : Type 0} → ((n : ℕ) → slice_get log n ≡ Some y → B) → (r ≡ y → B) → (n : ℕ) → slice_get (log ++ r ∷ []) n ≡ Some y → B
not_new log r y {B} old new n e = all_push (λ n z. z ≡ y → B) (λ n z. z ≡ y → B) log r (λ n z is f. old n (is ∙ ap Some f)) (λ n z is h. h) new n y e refl

-- a record of the source, and what the source's book keeps of it
pub source_pushed : {o : List Name} (r : SourceRec) (sent : ℕ → Option ℕ) (ring : Ring) (was_asked is_done : Bool) (a : BooksAfter) → AwayKept o a →
    source_named (session_after a) (length a.source.log) r ≡ true →
    is_first_send (session_after a) (length a.source.log) r ≡ true →
    IsThere (session_after a) (source_receipt r) → goes_on r ≡ true →
    SourceClean a.source.geometry.cells a.source.memory a.source.ledger r →
    SourceWithin a.source.geometry r →
    Index is_send_of sent (a.source.log ++ r ∷ []) →
    (r ≡ Done → IsComplete a.source.geometry.pages a.source.ledger (is_there a.target)) →
    AwayKept (o ++ (FromSource, length a.source.log) ∷ []) (record a { source = record a.source { log = a.source.log ++ r ∷ []; sent = sent; ring = ring; was_asked = was_asked; is_done = is_done } })
source_pushed {o} r sent ring was_asked is_done a k named first there on clean within index done =
    let s = session_after a in
    let t = source_more r s in
    let x = source_extends r s in
    let two : 1 < length s.source = slice_get_within s.source 1 State k.source.state in
    record {
      named = source_shapes r s k.named named first;
      started = source_starts r s two on (no_back s k.limits) k.started;
      merges = source_merges r s o there k.merges;
      clean = source_cleans r s a.source.memory a.source.ledger clean k.clean;
      frozen = record { memory_is = k.frozen.memory_is; ledger_is = k.frozen.ledger_is; halt_stands = k.frozen.halt_stands };
      limits = source_limits r s within k.limits;
      phase = record { halted = k.phase.halted; resumes = k.phase.resumes; home_is = k.phase.home_is };
      resumed_ready = k.resumed_ready;
      source = record { sends = index; state = x.source 1 State k.source.state; wide = k.source.wide };
      link = link_stays s t x (released_of a) a.link k.link;
      pager = pager_stays s t x (released_of a) a.pager k.pager.unready refl k.pager;
      placed = k.placed;
      settled = k.settled;
      target = record {
        places = k.target.places;
        frontier = k.target.frontier;
        frames = k.target.frames;
        untouched = k.target.untouched;
        released = k.target.released;
        over = λ p h. k.target.over p (over_source r s p h);
        unsettled = k.target.unsettled;
        misses = misses_stay s t x a.target.misses k.target.misses;
        wide = k.target.wide;
      };
      ends = record { all = k.ends.all; done = not_new s.source r Done k.ends.done done };
      vcpus = k.vcpus;
      lanes = k.lanes;
    }

-- what the links' book keeps, with the records that it makes
pub link_kept : {o past : List Name} (link : LinkPart) (a : BooksAfter) → AwayKept past a →
    Extends (session_after a) (session_after (record a { link = link })) →
    AllAt (λ n r. link_named (session_after a) r ≡ true) link.log → AllAt (λ n r. lane_named (session_after a) r ≡ true) link.lane_log →
    AllAt (λ n r. HasLane a.version) link.lane_log →
    IsMerging (session_after (record a { link = link })) o → LinkKept (session_after (record a { link = link })) (released_of a) link →
    AwayKept o (record a { link = link })
link_kept link a k x named over_lane within merges new =
    let s = session_after a in
    let t = session_after (record a { link = link }) in
    record {
      named = links_shapes link.log link.lane_log s x k.named named over_lane;
      started = links_starts link.log link.lane_log s x k.started;
      merges = merges;
      clean = links_cleans link.log link.lane_log s a.source.memory a.source.ledger k.clean;
      frozen = record { memory_is = k.frozen.memory_is; ledger_is = k.frozen.ledger_is; halt_stands = k.frozen.halt_stands };
      limits = links_limits link.log link.lane_log s within k.limits;
      phase = record { halted = k.phase.halted; resumes = k.phase.resumes; home_is = k.phase.home_is };
      resumed_ready = k.resumed_ready;
      source = record { sends = k.source.sends; state = k.source.state; wide = k.source.wide };
      link = new;
      pager = pager_stays s t x (released_of a) a.pager k.pager.unready refl k.pager;
      placed = k.placed;
      settled = k.settled;
      target = record {
        places = k.target.places;
        frontier = k.target.frontier;
        frames = k.target.frames;
        untouched = k.target.untouched;
        released = k.target.released;
        over = λ p h. k.target.over p (over_links link.log link.lane_log s p h);
        unsettled = k.target.unsettled;
        misses = misses_stay s t x a.target.misses k.target.misses;
        wide = k.target.wide;
      };
      ends = record { all = k.ends.all; done = k.ends.done };
      vcpus = k.vcpus;
      lanes = k.lanes;
    }

-- a record of the link, or of the lane, and the lines that it leaves
pub link_pushed : {o : List Name} (r : LinkRec) (link : LinkPart) (a : BooksAfter) → AwayKept o a →
    link_named (session_after a) r ≡ true → IsThere (session_after a) (link_receipt r) →
    LinkKept (link_more r (session_after a)) (released_of a) link →
    AwayKept (o ++ (Link, length a.link.log) ∷ []) (record a { link = record link { log = a.link.log ++ r ∷ []; lane_log = a.link.lane_log } })
link_pushed {o} r link a k named there new =
    let s = session_after a in
    link_kept (record link { log = a.link.log ++ r ∷ []; lane_log = a.link.lane_log }) a k (link_extends r s)
    (all_push (λ n y. link_named s y ≡ true) (λ n y. link_named s y ≡ true) s.link r k.named.link (λ n y is e. e) named) k.named.lane k.limits.lane
    (link_merges r s o there k.merges) (record { down = new.down; up = new.up; lane = new.lane })

pub lane_pushed : {o : List Name} (r : LaneRec) (link : LinkPart) (a : BooksAfter) → AwayKept o a →
    lane_named (session_after a) r ≡ true → HasLane a.version → IsThere (session_after a) (lane_receipt r) →
    LinkKept (lane_more r (session_after a)) (released_of a) link →
    AwayKept (o ++ (Lane, length a.link.lane_log) ∷ []) (record a { link = record link { log = a.link.log; lane_log = a.link.lane_log ++ r ∷ [] } })
lane_pushed {o} r link a k named within there new =
    let s = session_after a in
    link_kept (record link { log = a.link.log; lane_log = a.link.lane_log ++ r ∷ [] }) a k (lane_extends r s)
    k.named.link (all_push (λ n y. lane_named s y ≡ true) (λ n y. lane_named s y ≡ true) s.lane r k.named.lane (λ n y is e. e) named)
    (all_push (λ n y. HasLane s.version) (λ n y. HasLane s.version) s.lane r k.limits.lane (λ n y is h. h) within)
    (lane_merges r s o there k.merges) (record { down = new.down; up = new.up; lane = new.lane })

no_ready : (log : List PagerRec) → log ≡ [] → slice_get log 1 ≡ Some Ready → {B : Type 0} → B
no_ready log e h = absurd (let f : slice_get log 1 ≡ None = ap (λ l. slice_get l 1) e in cc)

pub unready_goes : (s : Recorded) (released : List ℕ) (pager : PagerPart) → PagerKept s released pager → IsReady s → {B : Type 0} → pager.released ≡ None → B
unready_goes s released pager k h e = no_ready s.pager (k.unready e) h

-- a record of the pager that places no page
pub pager_pushed : {o : List Name} (r : PagerRec) (a : BooksAfter) → AwayKept o a → IsReady (session_after a) →
    pager_named (session_after a) (length a.pager.log) r ≡ true →
    IsThere (session_after a) (pager_receipt r) → pager_goes_on r ≡ true →
    ((p : ℕ) → is_placement_of p r ≡ false) →
    PagerClean a.source.geometry.cells a.source.memory a.source.ledger a.pager.log (length a.pager.log) r →
    PagerWithin a.version a.source.geometry r →
    (r ≡ All → IsComplete a.source.geometry.pages a.source.ledger (is_there a.target)) →
    AwayKept (o ++ (Pager, length a.pager.log) ∷ []) (record a { pager = record a.pager { log = a.pager.log ++ r ∷ [] } })
pager_pushed {o} r a k ready named there on other clean within all =
    let s = session_after a in
    let t = pager_more r s in
    let x = pager_extends r s in
    let two : 1 < length s.pager = slice_get_within s.pager 1 Ready ready in
    let new = pager_stays s t x (released_of a) a.pager (unready_goes s (released_of a) a.pager k.pager ready) refl k.pager in
    record {
      named = pager_shapes r s k.named named;
      started = pager_starts r s two on k.started;
      merges = pager_merges r s o there k.merges;
      clean = pager_cleans r s a.source.memory a.source.ledger clean k.clean;
      frozen = record { memory_is = k.frozen.memory_is; ledger_is = k.frozen.ledger_is; halt_stands = k.frozen.halt_stands };
      limits = pager_limits r s within k.limits;
      phase = record { halted = k.phase.halted; resumes = k.phase.resumes; home_is = k.phase.home_is };
      resumed_ready = λ e. ready_stays s t x ready;
      source = record { sends = k.source.sends; state = k.source.state; wide = k.source.wide };
      link = link_stays s t x (released_of a) a.link k.link;
      pager = record { geometry = new.geometry; unready = new.unready; ready = new.ready; inbox = new.inbox; outbox = new.outbox; waiting = new.waiting; wants = new.wants };
      placed = k.placed;
      settled = k.settled;
      target = record {
        places = index_other is_placement_of a.target.placed s.pager r other k.target.places;
        frontier = k.target.frontier;
        frames = k.target.frames;
        untouched = k.target.untouched;
        released = k.target.released;
        over = λ p h. k.target.over p (over_pager r s p h);
        unsettled = k.target.unsettled;
        misses = misses_stay s t x a.target.misses k.target.misses;
        wide = k.target.wide;
      };
      ends = record { all = not_new s.pager r All k.ends.all all; done = k.ends.done };
      vcpus = k.vcpus;
      lanes = k.lanes;
    }

-- the order at the end of an event
pub close_none : (o : List Name) (s : Recorded) (b : BooksAfter) → AwayKept o b → AwayKept (o ++ new_names s s) b
close_none o s b k = subst (λ x. AwayKept x b) (sym (order_none o s)) k

pub close_guest : (o : List Name) (s : Recorded) (r : GuestRec) (b : BooksAfter) → AwayKept (o ++ (Guest, length s.guest) ∷ []) b → AwayKept (o ++ new_names s (guest_more r s)) b
close_guest o s r b k = subst (λ x. AwayKept x b) (sym (order_guest o s r)) k

pub close_guest_two : (o : List Name) (s : Recorded) (r t : GuestRec) (b : BooksAfter) → AwayKept ((o ++ (Guest, length s.guest) ∷ []) ++ (Guest, length (s.guest ++ r ∷ [])) ∷ []) b → AwayKept (o ++ new_names s (guest_more t (guest_more r s))) b
close_guest_two o s r t b k = subst (λ x. AwayKept x b) (sym (order_guest_two o s r t)) k

pub close_source : (o : List Name) (s : Recorded) (r : SourceRec) (b : BooksAfter) → AwayKept (o ++ (FromSource, length s.source) ∷ []) b → AwayKept (o ++ new_names s (source_more r s)) b
close_source o s r b k = subst (λ x. AwayKept x b) (sym (order_source o s r)) k

pub close_source_two : (o : List Name) (s : Recorded) (r t : SourceRec) (b : BooksAfter) → AwayKept ((o ++ (FromSource, length s.source) ∷ []) ++ (FromSource, length (s.source ++ r ∷ [])) ∷ []) b → AwayKept (o ++ new_names s (source_more t (source_more r s))) b
close_source_two o s r t b k = subst (λ x. AwayKept x b) (sym (order_source_two o s r t)) k

pub close_link : (o : List Name) (s : Recorded) (r : LinkRec) (b : BooksAfter) → AwayKept (o ++ (Link, length s.link) ∷ []) b → AwayKept (o ++ new_names s (link_more r s)) b
close_link o s r b k = subst (λ x. AwayKept x b) (sym (order_link o s r)) k

pub close_lane : (o : List Name) (s : Recorded) (r : LaneRec) (b : BooksAfter) → AwayKept (o ++ (Lane, length s.lane) ∷ []) b → AwayKept (o ++ new_names s (lane_more r s)) b
close_lane o s r b k = subst (λ x. AwayKept x b) (sym (order_lane o s r)) k

pub close_pager : (o : List Name) (s : Recorded) (r : PagerRec) (b : BooksAfter) → AwayKept (o ++ (Pager, length s.pager) ∷ []) b → AwayKept (o ++ new_names s (pager_more r s)) b
close_pager o s r b k = subst (λ x. AwayKept x b) (sym (order_pager o s r)) k

pub close_pager_two : (o : List Name) (s : Recorded) (r t : PagerRec) (b : BooksAfter) → AwayKept ((o ++ (Pager, length s.pager) ∷ []) ++ (Pager, length (s.pager ++ r ∷ [])) ∷ []) b → AwayKept (o ++ new_names s (pager_more t (pager_more r s))) b
close_pager_two o s r t b k = subst (λ x. AwayKept x b) (sym (order_pager_two o s r t)) k
