-- Which events lack no room in a log.
use Rattle.std.proofs.Common.{◌≡◌, ℕ, ◌<◌, ◌≤◌, Bool, true, false, cond, ◌&&◌, List, [], ◌∷◌, ◌++◌, length, Option, Some, None, Ok, refl, sym, ap, ◌∙◌, subst, arith}
use Rattle.std.specs.Prelude.{nat_lt, nat_le, slice_get}
use Rattle.std.proofs.lemmas.Bool.{le-leb}
use Rattle.std.proofs.lemmas.Bool.Decides.{nat_tests}
use Rattle.migration_types.specs.Limits.{most_records}
use Rattle.migration_types.specs.Sessions.{Recorded}
use Rattle.migration_types.specs.declared.records.PagerRec.TheVariants.{Fault}
use Rattle.residency.specs.Placements.{is_resident}
use Rattle.fault_queue.specs.Waiting.{is_asked, is_waiting}
use Rattle.page_stream.specs.declared.Packet.{Packet}
use Rattle.link_book.specs.LinkPart.{LinkPart, if_packet, with_back, with_front, with_up, with_pushed, pushed_line}
use Rattle.link_book.specs.declared.Arrival.{Arrival}
use Rattle.active_push.specs.SourcePart.{SourcePart, Offer, source_push, source_serve, source_tick}
use Rattle.target_side.specs.TargetPart.{TargetPart, with_misses, settled as with_settled}
use Rattle.target_side.specs.declared.access.UntakenMiss.{UntakenMiss}
use Rattle.target_side.specs.PagerPart.{PagerPart, Paged, Sent, settles, is_released, fault_new, fault_join, zeroes, faults, faults_by, next_fault, deliver, flushes, pager_pop, pager_pull, pager_flush, pager_tick}
use Rattle.book_events.specs.declared.effect.Effect.TheVariants.{Nothing}
use Rattle.migration_events.specs.declared.events.Event.{Event}
use Rattle.migration_events.specs.declared.events.Event.TheVariants.{Push, Serve, SourceTick, PagerPop, PagerPull, PagerFault, PagerFlush, PagerDeliver, PagerTick}
use Rattle.migration_model.specs.Books.{BooksAfter, session_after}
use Rattle.migration_model.specs.Events.{has_room, offered, served, popped, pulled, paged, sent_up}
use Rattle.migration_model.proofs.Limits.{HasRoom}
use Rattle.migration_model.proofs.Whole.{room_there}
use Rattle.book_events.proofs.Branches.{faults_log}
use Rattle.book_events.specs.Parts.{pushing, sending, receiving, placing, IsMade, IsFull, Fits, ComesTo}

-- each log is within its limit
all_within : (s : Recorded) → HasRoom s → has_room s ≡ true
all_within s h =
    let guest = le-leb (length s.guest) most_records h.guest in
    let source = le-leb (length s.source) most_records h.source in
    let link = le-leb (length s.link) most_records h.link in
    let lane = le-leb (length s.lane) most_records h.lane in
    let pager = le-leb (length s.pager) most_records h.pager in
    λ i. (((guest i && source i) && link i) && lane i) && pager i

still : (s t : Recorded) → (HasRoom s → HasRoom t) → has_room s ≡ true → has_room t ≡ true
still s t more e = all_within t (more (room_there s e))

-- an offer leaves both logs of the links as they are
abbrev AreSameLogs : LinkPart → LinkPart → Type 0
AreSameLogs l m = (l.log ≡ m.log) × (l.lane_log ≡ m.lane_log)

offer_logs : (offer : Packet → LinkPart → LinkPart) → ((p : Packet) (l : LinkPart) → AreSameLogs (offer p l) l) → (o : Option Packet) (l : LinkPart) → AreSameLogs (if_packet offer o l) l
offer_logs offer same None l = (refl, refl)
offer_logs offer same (Some p) l = same p l

pushed_logs : (has_lane : Bool) (p : Packet) (l : LinkPart) → AreSameLogs (with_pushed has_lane p l) l
pushed_logs has_lane p l = go has_lane
  where
    go : (b : Bool) → AreSameLogs (with_pushed b p l) l
    go true = (refl, refl)
    go false = (refl, refl)

offered_fits : (offer : Packet → LinkPart → LinkPart) → ((p : Packet) (l : LinkPart) → AreSameLogs (offer p l) l) → (o : Offer) (a : BooksAfter) → length o.book.log ≤ most_records → HasRoom (session_after a) → HasRoom (session_after (offered offer o a))
offered_fits offer same o a few h =
    let logs = offer_logs offer same o.packet a.link in
    record {
      guest = h.guest;
      source = few;
      link = subst (λ xs. length xs ≤ most_records) (sym logs.0) h.link;
      lane = subst (λ xs. length xs ≤ most_records) (sym logs.1) h.lane;
      pager = h.pager;
    }

pub push_fits : (w : ℕ) (has_lane : Bool) (s : SourcePart) (l : LinkPart) → length (source_push s).book.log ≤ most_records → Fits Push (pushing w has_lane s l)
push_fits w has_lane s l few = record { fits = λ a. still _ _ (λ h. go a h (nat_lt (length (pushed_line has_lane l)) w)) }
  where
    go : (a : BooksAfter) → HasRoom (session_after (pushing w has_lane s l a)) → (c : Bool) → HasRoom (session_after (cond c (offered (with_pushed has_lane) (source_push s) (pushing w has_lane s l a)) (pushing w has_lane s l a)))
    go a h true = offered_fits (with_pushed has_lane) (pushed_logs has_lane) (source_push s) (pushing w has_lane s l a) few h
    go a h false = h

-- nothing is pushed where the window is full
pub no_push_fits : (w : ℕ) (has_lane : Bool) (s : SourcePart) (l : LinkPart) → w ≤ length (pushed_line has_lane l) → Fits Push (pushing w has_lane s l)
no_push_fits w has_lane s l filled = record { fits = λ a room. subst (λ c. has_room (session_after (cond c (offered (with_pushed has_lane) (source_push s) (pushing w has_lane s l a)) (pushing w has_lane s l a))) ≡ true) (sym closed) room }
  where
    closed : nat_lt (length (pushed_line has_lane l)) w ≡ false
    closed = grind (arith, nat_tests, filled)

pub serve_fits : (s : SourcePart) (l : LinkPart) → ((x : Arrival) → slice_get l.up_arrivals 0 ≡ Some x → length (source_serve x.number x.packet s).book.log ≤ most_records) → Fits Serve (sending s l)
serve_fits s l few = record { fits = λ a. still _ _ (λ h. go a h l.up_arrivals few) }
  where
    go : (a : BooksAfter) → HasRoom (session_after (sending s l a)) → (xs : List Arrival) → ((x : Arrival) → slice_get xs 0 ≡ Some x → length (source_serve x.number x.packet s).book.log ≤ most_records) → HasRoom (session_after (served xs (sending s l a)))
    go a h [] few = h
    go a h (x ∷ rest) few = offered_fits with_front (λ p m. (refl, refl)) (source_serve x.number x.packet s) (sending s (record l { up_arrivals = rest }) a) (few x refl) (record { guest = h.guest; source = h.source; link = h.link; lane = h.lane; pager = h.pager })

pub source_tick_fits : (s : SourcePart) (l : LinkPart) → length (source_tick s).book.log ≤ most_records → Fits SourceTick (sending s l)
source_tick_fits s l few = record { fits = λ a. still _ _ (λ h. offered_fits with_back (λ p m. (refl, refl)) (source_tick s) (sending s l a) few h) }

pub pop_fits : (l : LinkPart) (b : PagerPart) → ((x : Arrival) → slice_get l.down_arrivals 0 ≡ Some x → length (pager_pop x.number x.packet b).log ≤ most_records) → Fits PagerPop (receiving l b)
pop_fits l b few = record { fits = λ a. still _ _ (λ h. go a h l.down_arrivals few) }
  where
    go : (a : BooksAfter) → HasRoom (session_after (receiving l b a)) → (xs : List Arrival) → ((x : Arrival) → slice_get xs 0 ≡ Some x → length (pager_pop x.number x.packet b).log ≤ most_records) → HasRoom (session_after (popped xs (receiving l b a)))
    go a h [] few = h
    go a h (x ∷ rest) few = record { guest = h.guest; source = h.source; link = h.link; lane = h.lane; pager = few x refl }

pub pull_fits : (l : LinkPart) (b : PagerPart) → ((x : Arrival) → slice_get l.lane_arrivals 0 ≡ Some x → length (pager_pull x.number x.packet b).log ≤ most_records) → Fits PagerPull (receiving l b)
pull_fits l b few = record { fits = λ a. still _ _ (λ h. go a h l.lane_arrivals few) }
  where
    go : (a : BooksAfter) → HasRoom (session_after (receiving l b a)) → (xs : List Arrival) → ((x : Arrival) → slice_get xs 0 ≡ Some x → length (pager_pull x.number x.packet b).log ≤ most_records) → HasRoom (session_after (pulled xs (receiving l b a)))
    go a h [] few = h
    go a h (x ∷ rest) few = record { guest = h.guest; source = h.source; link = h.link; lane = h.lane; pager = few x refl }

sent_fits : (r : Sent) (a : BooksAfter) → length r.book.log ≤ most_records → HasRoom (session_after a) → HasRoom (session_after (sent_up r a))
sent_fits r a few h =
    let logs = offer_logs with_up (λ p m. (refl, refl)) r.packet a.link in
    record {
      guest = h.guest;
      source = h.source;
      link = subst (λ xs. length xs ≤ most_records) (sym logs.0) h.link;
      lane = subst (λ xs. length xs ≤ most_records) (sym logs.1) h.lane;
      pager = few;
    }

pub flush_fits : (l : LinkPart) (b : PagerPart) → Fits PagerFlush (receiving l b)
flush_fits l b = record { fits = λ a. still _ _ (λ h. sent_fits (pager_flush b) (receiving l b a) (subst (λ xs. length xs ≤ most_records) (sym (same b.outbox)) h.pager) h) }
  where
    same : (xs : List Packet) → (flushes xs b).book.log ≡ b.log
    same [] = refl
    same (x ∷ rest) = refl

pub pager_tick_fits : (l : LinkPart) (b : PagerPart) → length (pager_tick b).book.log ≤ most_records → Fits PagerTick (receiving l b)
pager_tick_fits l b few = record { fits = λ a. still _ _ (λ h. sent_fits (pager_tick b) (receiving l b a) few h) }

-- a miss is taken without a record of the guest
pub fault_fits : (b : PagerPart) (t : TargetPart) → length (next_fault b t).pager.log ≤ most_records → Fits PagerFault (placing b t)
fault_fits b t few = record { fits = λ a. still (session_after (placing b t a)) (session_after (paged (next_fault b t) (placing b t a))) (λ h. record { guest = subst (λ xs. length xs ≤ most_records) (sym (faults_log b.released t.misses (settles t.unsettled b) (with_settled t))) h.guest; source = h.source; link = h.link; lane = h.lane; pager = few }) }

and_none : (c : Bool) → (c && false) ≡ false
and_none true = refl
and_none false = refl

over : (n : ℕ) → most_records < n → nat_le n most_records ≡ false
over n long = grind (arith, nat_tests, long)

pub fault_full : (b : PagerPart) (t : TargetPart) → most_records < length (next_fault b t).pager.log → IsFull PagerFault (placing b t)
fault_full b t long = record { full = λ a. ap (λ c. rest a && c) (over (length (next_fault b t).pager.log) long) ∙ and_none (rest a) }
  where
    rest : BooksAfter → Bool
    rest a =
        let s = session_after (paged (next_fault b t) (placing b t a)) in
        nat_le (length s.guest) most_records && nat_le (length s.source) most_records && nat_le (length s.link) most_records && nat_le (length s.lane) most_records

-- where nothing is done
pub nothing_done : (e : Event) (b : PagerPart) (t : TargetPart) → IsMade e (placing b t) (placing b t) → ComesTo e (Ok Nothing) placing b b t t
nothing_done e b t made = record { ok = made; told = record { same = λ a. refl }; full = λ refused. absurd (cc); memory = λ refused. absurd (cc); err = tt }

pub fault_nothing : (b : PagerPart) (t : TargetPart) → next_fault b t ≡ (record { pager = b; target = t; woken = [] }) → ComesTo PagerFault (Ok Nothing) placing b b t t
fault_nothing b t same = nothing_done PagerFault b t (record { made = λ a. ap (λ (r : Paged). paged r (placing b t a)) same })

pub deliver_nothing : (b : PagerPart) (t : TargetPart) → deliver b t ≡ (record { pager = b; target = t; woken = [] }) → ComesTo PagerDeliver (Ok Nothing) placing b b t t
deliver_nothing b t same = nothing_done PagerDeliver b t (record { made = λ a. ap (λ (r : Paged). paged r (placing b t a)) same })

pub deliver_fits : (b : PagerPart) (t : TargetPart) → (length (deliver b t).pager.log ≤ most_records) × (length (deliver b t).target.log ≤ most_records) → Fits PagerDeliver (placing b t)
deliver_fits b t few = record { fits = λ a. still (session_after (placing b t a)) (session_after (paged (deliver b t) (placing b t a))) (λ h. record { guest = few.1; source = h.source; link = h.link; lane = h.lane; pager = few.0 }) }
