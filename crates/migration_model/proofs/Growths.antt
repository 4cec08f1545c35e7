-- No event appends more than two records to a log.
use Rattle.active_push.specs.SourcePart.{Offer, SourcePart, asks, nearest, owes, pushes, serves_all, serves_owed, serves_want, silent, source_push, source_serve, source_tick, state_packet, unsent, with_pivot}
use Rattle.bubbling.specs.Bubbling.{in_turn}
use Rattle.fault_queue.specs.Waiting.{is_asked, is_waiting}
use Rattle.target_side.specs.GuestPart.{GuestPart, guest_access}
use Rattle.link_book.specs.LinkPart.{LinkPart, goes, if_packet, pushed_line, turned, channel_turned, with_arrival, with_back, with_front, with_pushed, with_up}
use Rattle.link_book.specs.declared.Arrival.{Arrival}
use Rattle.migration_events.specs.Ops.{page_in}
use Rattle.migration_events.specs.declared.events.Direction.{Direction}
use Rattle.migration_events.specs.declared.events.Direction.TheVariants.{Down as Downward, Lane as OverLane, Up as Upward}
use Rattle.migration_events.specs.declared.events.Event.{Event}
use Rattle.migration_events.specs.declared.events.Event.TheVariants.{GuestStep, Halt as HaltGuest, LinkTurn, PagerDeliver, PagerFault, PagerFlush, PagerPop, PagerPull, PagerTick, Push, Serve, SourceTick}
use Rattle.migration_events.specs.declared.events.Fate.{Fate}
use Rattle.migration_events.specs.declared.ops.Op.{Op}
use Rattle.migration_events.specs.declared.ops.Op.TheVariants.{Read as ReadCell, Release as ReleasePage, Write as WriteCell}
use Rattle.migration_model.proofs.Unrecorded.{settles_log}
use Rattle.migration_model.proofs.Lists.{length_suc}
use Rattle.migration_model.specs.Events.{all_at_move, away_event, away_ops, away_step, books_event, halted, home_event, home_ops, home_step, offered, paged, popped, pulled, pushed, sent_up, served}
use Rattle.migration_model.specs.Books.{After, BooksAfter, Before, Books, BooksBefore, Vcpu, session_after, session_before, session_of}
use Rattle.migration_types.specs.PageSets.{with_page, without_page}
use Rattle.migration_types.specs.Sessions.{Recorded}
use Rattle.migration_types.specs.declared.records.GuestRec.TheVariants.{Halt, Miss, See}
use Rattle.migration_types.specs.declared.records.LaneRec.TheVariants.{Down as LaneDown}
use Rattle.migration_types.specs.declared.records.LinkRec.TheVariants.{Down, Up}
use Rattle.migration_types.specs.declared.records.PagerRec.{PagerRec}
use Rattle.migration_types.specs.declared.records.PagerRec.TheVariants.{Fault, Got, Pull, Skip}
use Rattle.migration_types.specs.declared.records.SourceRec.TheVariants.{Again, Done}
use Rattle.page_stream.specs.declared.Packet.{Packet}
use Rattle.page_stream.specs.declared.Packet.TheVariants.{All as AllPacket, Page as PagePacket, State as StatePacket, Want as WantPacket}
use Rattle.residency.specs.Placements.{is_covered, is_resident}
use Rattle.std.proofs.Common.{Bool, List, None, Option, Some, [], arith, cond, false, length, subst, suc, true, ℕ, ◌+◌, ◌++◌, ◌||◌, ◌∷◌, ◌≡◌, ◌≤◌}
use Rattle.std.specs.List.{range_with_len}
use Rattle.std.specs.Prelude.{nat_lt, slice_get}
use Rattle.target_side.specs.TargetPart.{Accessed, TargetPart, accesses, does, done_over, frees, lacks, looks, misses_page, resumes, settled as with_settled, target_access, with_misses}
use Rattle.target_side.specs.declared.access.Access.TheVariants.{Missed, Waiting}
use Rattle.target_side.specs.declared.access.UntakenMiss.{UntakenMiss}
use Rattle.target_side.specs.PagerPart.{Paged, PagerPart, Sent, deliver, delivers_by, delivers_next, fault_absent, fault_join, fault_new, faults, faults_by, first_absent, flushes, is_released, next_fault, pager_flush, pager_pop, pager_pull, pager_tick, places, pops_by, pulls_by, settles, takes, ticks, ticks_at, zeroes}
use Rattle.target_side.specs.declared.incoming.Incoming.{Incoming}

-- at most two longer
abbrev pub IsLittleMore : {A : Type 0} → List A → List A → Type 0
IsLittleMore old new = length new ≤ length old + 2

none_more : {A : Type 0} (xs : List A) → IsLittleMore xs xs
none_more xs = omega arith

one_more : {A : Type 0} (xs : List A) (x : A) → IsLittleMore xs (xs ++ x ∷ [])
one_more xs x = omega (arith, length_suc xs x)

two_more : {A : Type 0} (xs : List A) (x y : A) → IsLittleMore xs ((xs ++ x ∷ []) ++ y ∷ [])
two_more xs x y = omega (arith, length_suc xs x, length_suc (xs ++ x ∷ []) y)

-- the guest at home
guest_more : (v : ℕ) (op : Op) (b : GuestPart) → IsLittleMore b.log (guest_access v op b).log
guest_more v (ReadCell p c) b = one_more b.log _
guest_more v (WriteCell p c x) b = one_more b.log _
guest_more v (ReleasePage p) b = one_more b.log _

-- the source
owed_more : (up page : ℕ) (q : Option ℕ) (b : SourcePart) → IsLittleMore b.log (serves_owed page q (record (asks up b) { ring = with_pivot page b.ring })).book.log
owed_more up page None b = two_more b.log _ _
owed_more up page (Some send) b = two_more b.log _ _

want_more : (up page : ℕ) (b : SourcePart) → IsLittleMore b.log (serves_want page (asks up b)).book.log
want_more up page b = go (owes (asks up b) page)
  where
    go : (owed : Bool) → IsLittleMore b.log (cond owed (serves_owed page (b.sent page) (record (asks up b) { ring = with_pivot page b.ring })) (silent (asks up b))).book.log
    go true = owed_more up page (b.sent page) b
    go false = one_more b.log _

all_more : (up : ℕ) (b : SourcePart) → IsLittleMore b.log (serves_all (asks up b)).book.log
all_more up b = go b.is_done
  where
    go : (done : Bool) → IsLittleMore b.log (cond done (silent (asks up b)) (record { book = record (asks up b) { log = (asks up b).log ++ Done ∷ []; is_done = true }; packet = None })).book.log
    go true = one_more b.log _
    go false = two_more b.log _ _

serve_more : (up : ℕ) (packet : Packet) (b : SourcePart) → IsLittleMore b.log (source_serve up packet b).book.log
serve_more up (StatePacket n released) b = none_more b.log
serve_more up (PagePacket n page content) b = none_more b.log
serve_more up (WantPacket n page) b = want_more up page b
serve_more up (AllPacket n) b = all_more up b

push_more : (b : SourcePart) → IsLittleMore b.log (source_push b).book.log
push_more b = go b.is_done (nearest (in_turn b.ring) (unsent b) (range_with_len 0 b.geometry.pages))
  where
    go : (done : Bool) (page : Option ℕ) → IsLittleMore b.log (cond done (silent b) (pushes page b)).book.log
    go true page = none_more b.log
    go false None = none_more b.log
    go false (Some page) = one_more b.log _

source_tick_more : (b : SourcePart) → IsLittleMore b.log (source_tick b).book.log
source_tick_more b = go b.was_asked
  where
    go : (asked : Bool) → IsLittleMore b.log (cond asked (silent b) (record { book = record b { log = b.log ++ Again 1 ∷ [] }; packet = Some (state_packet (length b.log) b) })).book.log
    go true = none_more b.log
    go false = one_more b.log _

-- the links
record LinkMore (old new : LinkPart) : Type 0 where
  link : IsLittleMore old.log new.log
  lane : IsLittleMore old.lane_log new.lane_log

link_none : (b : LinkPart) → LinkMore b b
link_none b = record { link = none_more b.log; lane = none_more b.lane_log }

-- what is offered is no record
offer_more : (offer : Packet → LinkPart → LinkPart) → ((packet : Packet) (b : LinkPart) → LinkMore b (offer packet b)) → (packet : Option Packet) (b : LinkPart) → LinkMore b (if_packet offer packet b)
offer_more offer each None b = link_none b
offer_more offer each (Some packet) b = each packet b

back_more : (packet : Packet) (b : LinkPart) → LinkMore b (with_back packet b)
back_more packet b = record { link = none_more b.log; lane = none_more b.lane_log }

front_more : (packet : Packet) (b : LinkPart) → LinkMore b (with_front packet b)
front_more packet b = record { link = none_more b.log; lane = none_more b.lane_log }

up_more : (packet : Packet) (b : LinkPart) → LinkMore b (with_up packet b)
up_more packet b = record { link = none_more b.log; lane = none_more b.lane_log }

offer_pushed_more : (has_lane : Bool) (packet : Packet) (b : LinkPart) → LinkMore b (with_pushed has_lane packet b)
offer_pushed_more true packet b = record { link = none_more b.log; lane = none_more b.lane_log }
offer_pushed_more false packet b = back_more packet b

arrival_more : {R : Type 0} (names : ℕ → R) (came : Option ℕ) (log : List R) → IsLittleMore log (with_arrival names came log)
arrival_more names None log = none_more log
arrival_more names (Some number) log = one_more log _

turn_more : (direction : Direction) (fate : Fate) (b : LinkPart) → LinkMore b (turned direction fate b)
turn_more Downward fate b = record { link = arrival_more Down (channel_turned (goes Downward) fate (length b.log) b.down b.down_arrivals).came b.log; lane = none_more b.lane_log }
turn_more Upward fate b = record { link = arrival_more Up (channel_turned (goes Upward) fate (length b.log) b.up b.up_arrivals).came b.log; lane = none_more b.lane_log }
turn_more OverLane fate b = record { link = none_more b.log; lane = arrival_more LaneDown (channel_turned (goes OverLane) fate (length b.lane_log) b.lane b.lane_arrivals).came b.lane_log }

-- the pager
taken_more : (r : PagerRec) (packet : Packet) (b : PagerPart) → IsLittleMore b.log (takes r packet b).log
taken_more r (StatePacket n released) b = two_more b.log _ _
taken_more r (PagePacket n p content) b = one_more b.log _
taken_more r (WantPacket n p) b = none_more b.log
taken_more r (AllPacket n) b = none_more b.log

pop_more : (down : ℕ) (packet : Packet) (b : PagerPart) → IsLittleMore b.log (pager_pop down packet b).log
pop_more down packet b = go b.released packet
  where
    go : (released : Option (List ℕ)) (packet : Packet) → IsLittleMore b.log (pops_by released down packet b).log
    go None (StatePacket n released) = two_more b.log _ _
    go None (PagePacket n p content) = none_more b.log
    go None (WantPacket n p) = none_more b.log
    go None (AllPacket n) = none_more b.log
    go (Some set) packet = taken_more (Got down) packet b

pull_more : (down : ℕ) (packet : Packet) (b : PagerPart) → IsLittleMore b.log (pager_pull down packet b).log
pull_more down packet b = go b.released
  where
    go : (released : Option (List ℕ)) → IsLittleMore b.log (pulls_by released down packet b).log
    go None = none_more b.log
    go (Some set) = taken_more (Pull down) packet b

flush_more : (b : PagerPart) → IsLittleMore b.log (pager_flush b).book.log
flush_more b = go b.outbox
  where
    go : (outbox : List Packet) → IsLittleMore b.log (flushes outbox b).book.log
    go [] = none_more b.log
    go (packet ∷ rest) = none_more b.log

tick_more : (b : PagerPart) → IsLittleMore b.log (pager_tick b).book.log
tick_more b = go b.released
  where
    at : (page : Option ℕ) → IsLittleMore b.log (ticks_at page b).book.log
    at None = one_more b.log _
    at (Some page) = one_more b.log _

    go : (released : Option (List ℕ)) → IsLittleMore b.log (ticks released b).book.log
    go None = none_more b.log
    go (Some released) = at (first_absent (range_with_len 0 b.geometry.pages) released (λ p. b.placed p || b.settled p))

-- the pager's and the target's logs, after a call on both
record PagedMore (b : PagerPart) (t : TargetPart) (r : Paged) : Type 0 where
  pager : IsLittleMore b.log r.pager.log
  target : IsLittleMore t.log r.target.log

paged_none : (b : PagerPart) (t : TargetPart) (woken : List ℕ) → PagedMore b t (record { pager = b; target = t; woken = woken })
paged_none b t woken = record { pager = none_more b.log; target = none_more t.log }

-- the pager has learned of a miss
abbrev learned : ℕ → PagerPart → PagerPart
learned miss b = record b { log = b.log ++ Fault miss ∷ [] }

module _ (miss p v : ℕ) (b : PagerPart) (t : TargetPart) where
  join_more : (want : Option ℕ) → IsLittleMore b.log (fault_join p v want (learned miss b)).log
  join_more None = one_more b.log _
  join_more (Some want) = two_more b.log _ _

  absent_more : PagedMore b t (fault_absent p v (learned miss b) t)
  absent_more = go (is_waiting v b.waiting) (is_released b.released p) (is_asked p b.waiting)
    where
      go : (waits released asked : Bool) → PagedMore b t
          (cond waits (record { pager = learned miss b; target = t; woken = [] })
          (cond released (zeroes p (learned miss b) t)
          (cond asked (record { pager = fault_join p v (b.wants p) (learned miss b); target = t; woken = [] })
          (record { pager = fault_new p v (learned miss b); target = t; woken = [] }))))
      go true released asked = record { pager = one_more b.log _; target = none_more t.log }
      go false true asked = record { pager = two_more b.log _ _; target = none_more t.log }
      go false false true = record { pager = join_more (b.wants p); target = none_more t.log }
      go false false false = record { pager = two_more b.log _ _; target = none_more t.log }

  fault_more : (resident : Bool) → PagedMore b t (cond resident (record { pager = learned miss b; target = t; woken = [] }) (fault_absent p v (learned miss b) t))
  fault_more true = record { pager = one_more b.log _; target = none_more t.log }
  fault_more false = absent_more

faults_more : (misses : List UntakenMiss) (b : PagerPart) (t : TargetPart) → PagedMore b t (faults misses b t)
faults_more [] b t = paged_none b t []
faults_more (x ∷ rest) b t =
    let k = fault_more x.number x.page x.vcpu b (with_misses rest t) (is_resident (t.placed x.page) (t.freed x.page)) in
    record { pager = k.pager; target = k.target }

-- settling records nothing
settled_more : (b : PagerPart) (t : TargetPart) (r : Paged) → PagedMore (settles t.unsettled b) (with_settled t) r → PagedMore b t r
settled_more b t r k = record { pager = subst (λ log. IsLittleMore log r.pager.log) (settles_log t.unsettled b) k.pager; target = k.target }

faults_by_more : (released : Option (List ℕ)) (misses : List UntakenMiss) (b : PagerPart) (t : TargetPart) → PagedMore b t (faults_by released misses b t)
faults_by_more None misses b t = paged_none b t []
faults_by_more (Some released) misses b t = faults_more misses b t

next_fault_more : (b : PagerPart) (t : TargetPart) → PagedMore b t (next_fault b t)
next_fault_more b t = settled_more b t (next_fault b t) (faults_by_more b.released t.misses (settles t.unsettled b) (with_settled t))

module _ (b : PagerPart) (t : TargetPart) where
  arrives_more : (inbox : List Incoming) → PagedMore b t (delivers_next inbox b t)
  arrives_more [] = paged_none b t []
  arrives_more (x ∷ rest) = go (is_resident (t.placed x.page) (t.freed x.page))
    where
      go : (resident : Bool) → PagedMore b t (cond resident (record { pager = record b { log = b.log ++ Skip x.got ∷ []; inbox = rest }; target = t; woken = [] }) (places x (record b { inbox = rest }) t))
      go true = record { pager = one_more b.log _; target = none_more t.log }
      go false = record { pager = one_more b.log _; target = none_more t.log }

  delivers_more : (released : Option (List ℕ)) → PagedMore b t (delivers_by released b t)
  delivers_more None = paged_none b t []
  delivers_more (Some released) = by t.is_resumed
    where
      by : (resumed : Bool) → PagedMore b t (cond resumed (delivers_next b.inbox b t) (record { pager = b; target = resumes t; woken = [] }))
      by true = arrives_more b.inbox
      by false = record { pager = none_more b.log; target = one_more t.log _ }

deliver_more : (b : PagerPart) (t : TargetPart) → PagedMore b t (deliver b t)
deliver_more b t = settled_more b t (deliver b t) (delivers_more (settles t.unsettled b) (with_settled t) b.released)

-- the guest at the target
does_more : (v : ℕ) (op : Op) (b : TargetPart) → length (does v op b).log ≡ suc (length b.log)
does_more v (ReadCell p c) b = length_suc b.log _
does_more v (WriteCell p c x) b = length_suc b.log _
does_more v (ReleasePage p) b = length_suc b.log _

looks_more : (k : ℕ) (b : TargetPart) → length (looks k b).log ≤ suc (length b.log)
looks_more k b = go (is_covered (Some k) b.frontier)
  where
    go : (covered : Bool) → length (cond covered b (record b { log = b.log ++ See k ∷ []; frontier = Some k })).log ≤ suc (length b.log)
    go true = omega arith
    go false = omega (arith, length_suc b.log (See k))

-- over what a change leaves that appends one record at most
done_more : (change : TargetPart → TargetPart) (v : ℕ) (op : Op) (b : TargetPart) → ((c : TargetPart) → length (change c).log ≤ suc (length c.log)) → IsLittleMore b.log (done_over change v op b).book.log
done_more change v op b little =
    let c = record b { standing = without_page v b.standing } in
    omega (arith, does_more v op (change c), little c)

misses_more : (v p : ℕ) (b : TargetPart) → IsLittleMore b.log (misses_page v p b).book.log
misses_more v p b = go (b.standing v)
  where
    go : (stands : Bool) → IsLittleMore b.log (cond {A = Accessed} stands (record { book = b; access = Waiting }) (record {
      book = record b {
        log = b.log ++ Miss v p ∷ [];
        misses = b.misses ++ (record { number = length b.log; vcpu = v; page = p }) ∷ [];
        standing = with_page v b.standing;
      };
      access = Missed;
    })).book.log
    go true = none_more b.log
    go false = one_more b.log _

lacks_more : (v : ℕ) (op : Op) (b : TargetPart) → IsLittleMore b.log (lacks v op b).book.log
lacks_more v (ReadCell p c) b = misses_more v p b
lacks_more v (WriteCell p c x) b = misses_more v p b
lacks_more v (ReleasePage p) b = done_more (frees p) v (ReleasePage p) b (λ c. omega arith)

access_more : (v : ℕ) (op : Op) (b : TargetPart) → IsLittleMore b.log (target_access v op b).book.log
access_more v op b = go b.is_resumed
  where
    at : (placed : Option ℕ) (is_freed : Bool) → IsLittleMore b.log (accesses v op placed is_freed b).book.log
    at (Some k) is_freed = done_more (looks k) v op b (λ c. looks_more k c)
    at None true = done_more (λ c. c) v op b (λ c. omega arith)
    at None false = lacks_more v op b

    go : (resumed : Bool) → IsLittleMore b.log (cond {A = Accessed} resumed (accesses v op (b.placed (page_in op)) (b.freed (page_in op)) b) (record { book = b; access = Waiting })).book.log
    go true = at (b.placed (page_in op)) (b.freed (page_in op))
    go false = none_more b.log

-- a session of which no log has more than two records more
pub record GrowsByTwo (s t : Recorded) : Type 0 where
  pub guest : IsLittleMore s.guest t.guest
  pub source : IsLittleMore s.source t.source
  pub link : IsLittleMore s.link t.link
  pub lane : IsLittleMore s.lane t.lane
  pub pager : IsLittleMore s.pager t.pager

stays_short : (s : Recorded) → GrowsByTwo s s
stays_short s = record { guest = none_more s.guest; source = none_more s.source; link = none_more s.link; lane = none_more s.lane; pager = none_more s.pager }

home_ops_more : (v : ℕ) (vcpu : Vcpu) (ops : List Op) (h : BooksBefore) → GrowsByTwo (session_before h) (session_before (home_ops v vcpu ops h))
home_ops_more v vcpu [] h = stays_short (session_before h)
home_ops_more v vcpu (op ∷ ops) h = record { guest = guest_more v op h.guest; source = omega arith; link = omega arith; lane = omega arith; pager = omega arith }

home_step_more : (v : ℕ) (vcpu : Option Vcpu) (h : BooksBefore) → GrowsByTwo (session_before h) (session_before (home_step v vcpu h))
home_step_more v None h = stays_short (session_before h)
home_step_more v (Some vcpu) h = home_ops_more v vcpu vcpu.before_move h

home_more : (e : Event) (h : BooksBefore) → GrowsByTwo (session_before h) (session_of (home_event e h))
home_more (GuestStep v) h = home_step_more v (slice_get h.vcpus v) h
home_more HaltGuest h = go (all_at_move h.vcpus)
  where
    go : (at_move : Bool) → GrowsByTwo (session_before h) (session_of (cond at_move (After (halted h)) (Before h)))
    go true = record { guest = one_more h.guest.log Halt; source = omega arith; link = omega arith; lane = omega arith; pager = omega arith }
    go false = stays_short (session_before h)
home_more Push h = stays_short (session_before h)
home_more Serve h = stays_short (session_before h)
home_more SourceTick h = stays_short (session_before h)
home_more (LinkTurn direction fate) h = stays_short (session_before h)
home_more PagerPop h = stays_short (session_before h)
home_more PagerPull h = stays_short (session_before h)
home_more PagerFault h = stays_short (session_before h)
home_more PagerFlush h = stays_short (session_before h)
home_more PagerDeliver h = stays_short (session_before h)
home_more PagerTick h = stays_short (session_before h)

away_ops_more : (v : ℕ) (vcpu : Vcpu) (ops : List Op) (a : BooksAfter) → GrowsByTwo (session_after a) (session_after (away_ops v vcpu ops a))
away_ops_more v vcpu [] a = stays_short (session_after a)
away_ops_more v vcpu (op ∷ ops) a = record { guest = access_more v op a.target; source = none_more a.source.log; link = none_more a.link.log; lane = none_more a.link.lane_log; pager = none_more a.pager.log }

away_step_more : (v : ℕ) (vcpu : Option Vcpu) (a : BooksAfter) → GrowsByTwo (session_after a) (session_after (away_step v vcpu a))
away_step_more v None a = stays_short (session_after a)
away_step_more v (Some vcpu) a = away_ops_more v vcpu vcpu.after_move a

-- the source and the links, after a call on both
offered_more : (offer : Packet → LinkPart → LinkPart) → ((packet : Packet) (b : LinkPart) → LinkMore b (offer packet b)) → (o : Offer) (a : BooksAfter) → IsLittleMore a.source.log o.book.log → GrowsByTwo (session_after a) (session_after (offered offer o a))
offered_more offer each o a source =
    let k = offer_more offer each o.packet a.link in
    record { guest = none_more a.target.log; source = source; link = k.link; lane = k.lane; pager = none_more a.pager.log }

pushed_more : (a : BooksAfter) → GrowsByTwo (session_after a) (session_after (pushed a))
pushed_more a = go (nat_lt (length (pushed_line a.has_lane a.link)) a.window)
  where
    go : (fits : Bool) → GrowsByTwo (session_after a) (session_after (cond fits (offered (with_pushed a.has_lane) (source_push a.source) a) a))
    go true = offered_more (with_pushed a.has_lane) (offer_pushed_more a.has_lane) (source_push a.source) a (push_more a.source)
    go false = stays_short (session_after a)

served_more : (arrivals : List Arrival) (a : BooksAfter) → GrowsByTwo (session_after a) (session_after (served arrivals a))
served_more [] a = stays_short (session_after a)
served_more (x ∷ rest) a =
    let k = offered_more with_front front_more (source_serve x.number x.packet a.source) (record a { link = record a.link { up_arrivals = rest } }) (serve_more x.number x.packet a.source) in
    record { guest = k.guest; source = k.source; link = k.link; lane = k.lane; pager = k.pager }

popped_more : (arrivals : List Arrival) (a : BooksAfter) → GrowsByTwo (session_after a) (session_after (popped arrivals a))
popped_more [] a = stays_short (session_after a)
popped_more (x ∷ rest) a = record { guest = none_more a.target.log; source = none_more a.source.log; link = none_more a.link.log; lane = none_more a.link.lane_log; pager = pop_more x.number x.packet a.pager }

pulled_more : (arrivals : List Arrival) (a : BooksAfter) → GrowsByTwo (session_after a) (session_after (pulled arrivals a))
pulled_more [] a = stays_short (session_after a)
pulled_more (x ∷ rest) a = record { guest = none_more a.target.log; source = none_more a.source.log; link = none_more a.link.log; lane = none_more a.link.lane_log; pager = pull_more x.number x.packet a.pager }

paged_more : (r : Paged) (a : BooksAfter) → PagedMore a.pager a.target r → GrowsByTwo (session_after a) (session_after (paged r a))
paged_more r a k = record { guest = k.target; source = none_more a.source.log; link = none_more a.link.log; lane = none_more a.link.lane_log; pager = k.pager }

sent_more : (r : Sent) (a : BooksAfter) → IsLittleMore a.pager.log r.book.log → GrowsByTwo (session_after a) (session_after (sent_up r a))
sent_more r a pager =
    let k = offer_more with_up up_more r.packet a.link in
    record { guest = none_more a.target.log; source = none_more a.source.log; link = k.link; lane = k.lane; pager = pager }

turned_more : (direction : Direction) (fate : Fate) (a : BooksAfter) → GrowsByTwo (session_after a) (session_after (record a { link = turned direction fate a.link }))
turned_more direction fate a =
    let k = turn_more direction fate a.link in
    record { guest = none_more a.target.log; source = none_more a.source.log; link = k.link; lane = k.lane; pager = none_more a.pager.log }

away_more : (e : Event) (a : BooksAfter) → GrowsByTwo (session_after a) (session_after (away_event e a))
away_more (GuestStep v) a = away_step_more v (slice_get a.vcpus v) a
away_more HaltGuest a = stays_short (session_after a)
away_more Push a = pushed_more a
away_more Serve a = served_more a.link.up_arrivals a
away_more SourceTick a = offered_more with_back back_more (source_tick a.source) a (source_tick_more a.source)
away_more (LinkTurn direction fate) a = turned_more direction fate a
away_more PagerPop a = popped_more a.link.down_arrivals a
away_more PagerPull a = pulled_more a.link.lane_arrivals a
away_more PagerFault a = paged_more (next_fault a.pager a.target) a (next_fault_more a.pager a.target)
away_more PagerFlush a = sent_more (pager_flush a.pager) a (flush_more a.pager)
away_more PagerDeliver a = paged_more (deliver a.pager a.target) a (deliver_more a.pager a.target)
away_more PagerTick a = sent_more (pager_tick a.pager) a (tick_more a.pager)

-- no event appends more than two records to a log
pub event_grows_by_two : (e : Event) (b : Books) → GrowsByTwo (session_of b) (session_of (books_event e b))
event_grows_by_two e (Before h) = home_more e h
event_grows_by_two e (After a) = away_more e a
