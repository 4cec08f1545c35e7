-- The events of the pager but PagerFlush.
use Rattle.audit_model.proofs.Consistent.{there}
use Rattle.audit_model.proofs.Touched.{released_zero}
use Rattle.audit_model.proofs.Worlds.{content_at}
use Rattle.audit_model.specs.Flat.{at_halt, in_ledger}
use Rattle.audit_model.specs.Names.{if_there}
use Rattle.audit_model.specs.Shape.{delivers, delivery, down_sending, is_down, is_miss, is_or_repeats, is_placement_of, is_send_of, is_state, is_taking, is_want, lane_sending, pager_named, pager_start, passes, taken_sending}
use Rattle.balloon_ledger.specs.Released.{released}
use Rattle.fault_queue.specs.Waiting.{Waiting, entry, is_asked, is_waiting, joined, with_waiter, without}
use Rattle.link_book.specs.declared.Arrival.{Arrival}
use Rattle.migration_types.specs.Extents.{Extent}
use Rattle.migration_types.specs.Memory.{Memory, page_of, with_content, with_zeros}
use Rattle.migration_types.specs.PageSets.{Pages}
use Rattle.migration_types.specs.Receipts.{Name, pager_receipt}
use Rattle.migration_types.specs.Sessions.{HasLane, Recorded}
use Rattle.migration_types.specs.declared.records.GuestRec.TheVariants.{Miss, Resume}
use Rattle.migration_types.specs.declared.records.LaneRec.TheVariants.{Down as LaneDown}
use Rattle.migration_types.specs.declared.records.LinkRec.TheVariants.{Down}
use Rattle.migration_types.specs.declared.records.LogName.TheVariants.{Guest, Lane, Link, Pager}
use Rattle.migration_types.specs.declared.records.PagerRec.{PagerRec}
use Rattle.migration_types.specs.declared.records.PagerRec.TheVariants.{All, Fault, Got, Join, Place, Pull, Ready, Skip, Want, Zero}
use Rattle.migration_types.specs.declared.records.SourceRec.TheVariants.{Again, Send, State}
use Rattle.page_stream.specs.Packets.{number_of}
use Rattle.page_stream.specs.declared.Packet.{Packet}
use Rattle.page_stream.specs.declared.Packet.TheVariants.{All as AllPacket, Page as PagePacket, State as StatePacket, Want as WantPacket}
use Rattle.migration_model.proofs.Cleans.{PagerClean, over_pager, pager_cleans}
use Rattle.migration_model.proofs.Facts.{Arrives, AwayKept, DownArrived, DownFact, HasCome, HasMissed, IsReady, IsStateNumber, IsWaitedFor, LaneArrived, UpFact, close_guest, close_none, close_pager, close_pager_two, down_fact_stays, has_come_stays, is_there, link_stays, misses_stay, not_new, pager_pushed, released_of, up_fact_stays}
use Rattle.migration_model.proofs.Unrecorded.{settled_arrives, settled_books, settled_keeps, settles_released, up_keeps, with_link, with_pager}
use Rattle.migration_model.proofs.Grows.{Extends, IsThere, names, names_none, pager_extends, pager_merges, pager_more, taken_stays}
use Rattle.migration_model.proofs.Limits.{PagerWithin, content_fits, pager_limits, wide_content, wide_zeros}
use Rattle.migration_model.proofs.Lists.{all_push, and_both, each_kept, each_mapped, each_push, each_weaker, get_new, get_old, index_other, length_suc, passes_at}
use Rattle.migration_model.proofs.Pushes.{put_pushed, resume_pushed}
use Rattle.migration_model.proofs.Shapes.{pager_goes_on, pager_shapes}
use Rattle.migration_model.specs.Events.{paged, popped, pulled, sent_up}
use Rattle.migration_model.specs.Books.{BooksAfter, session_after}
use Rattle.residency.specs.Placements.{is_resident}
use Rattle.std.proofs.Common.{Bool, List, None, Option, Some, [], ap, arith, cond, false, inl, inr, length, not, refl, subst, suc, sym, true, zero, ℕ, ◌++◌, ◌<◌, ◌||◌, ◌∙◌, ◌∷◌, ◌≡◌, ◌≤◌, ◌⊎◌}
use Rattle.std.proofs.lemmas.Bool.{cases_lt, eq-eqb, eqb-true, lt-ltb}
use Rattle.std.proofs.lemmas.Option.{slice_get_within}
use Rattle.std.specs.List.{AllByRecursion, filter, range_with_len}
use Rattle.std.specs.Option.{option_map}
use Rattle.std.specs.Prelude.{is_some, slice_get, slice_index, ◌+◌, ◌==◌}
use Rattle.target_side.specs.PagerPart.{PagerPart, deliver, delivers_at, delivers_by, delivers_next, fault_absent, fault_at, fault_join, fault_new, faults, faults_by, first_absent, is_listed, is_released, next_fault, oldest, places, pops_by, pops_first, pulls_by, takes, ticks, ticks_at, wants_page, zeroes}
use Rattle.target_side.specs.TargetPart.{resumes}
use Rattle.target_side.specs.declared.incoming.Incoming.{Incoming}
use Rattle.target_side.specs.declared.access.UntakenMiss.{UntakenMiss}
use Rattle.migration_types.specs.Contents.{IsContent}

listed_released : (ledger : Pages) (xs : List ℕ) (p : ℕ) → is_listed p (filter ledger xs) ≡ true → ledger p ≡ true
listed_released ledger [] p e = absurd (cc)
listed_released ledger (x ∷ xs) p e = go (λ f. listed_released ledger xs p f) (ledger x) refl e
  where
    here : (is_listed p (filter ledger xs) ≡ true → ledger p ≡ true) → (b : Bool) → (x == p) ≡ b → ledger x ≡ true → (b || is_listed p (filter ledger xs)) ≡ true → ledger p ≡ true
    here rec true is at e = subst (λ k. ledger k ≡ true) (eqb-true x p is) at
    here rec false is at e = rec e

    go : (is_listed p (filter ledger xs) ≡ true → ledger p ≡ true) → (b : Bool) → ledger x ≡ b → is_listed p (cond b (x ∷ filter ledger xs) (filter ledger xs)) ≡ true → ledger p ≡ true
    go rec true at e = here rec (x == p) refl at e
    go rec false at e = rec e

unlisted : (ledger : Pages) (xs : List ℕ) (p : ℕ) → ledger p ≡ false → is_listed p (filter ledger xs) ≡ false
unlisted ledger xs p e = go (is_listed p (filter ledger xs)) refl
  where
    go : (b : Bool) → is_listed p (filter ledger xs) ≡ b → b ≡ false
    go true is = let h = listed_released ledger xs p is in absurd (cc)
    go false is = refl

-- no owed page is absent
none_absent : (n a : ℕ) (released : List ℕ) (there : Pages) → first_absent (range_with_len a n) released there ≡ None → (p : ℕ) → a ≤ p → p < a + n → (is_listed p released || there p) ≡ true
none_absent zero a released there e p low high = absurd (omega arith)
none_absent (suc n) a released there e p low high = go (λ f lo hi. none_absent n (a + 1) released there f p lo hi) (is_listed a released || there a) refl e (cases_lt a p)
  where
    go : (first_absent (range_with_len (a + 1) n) released there ≡ None → a + 1 ≤ p → p < a + 1 + n → (is_listed p released || there p) ≡ true) → (b : Bool) → (is_listed a released || there a) ≡ b → cond b (first_absent (range_with_len (a + 1) n) released there) (Some a) ≡ None → (a < p) ⊎ (p ≤ a) → (is_listed p released || there p) ≡ true
    go rec true is e (inl lt) = rec e (omega arith) (omega arith)
    go rec true is e (inr le) = let same : a ≡ p = omega arith in subst (λ k. (is_listed k released || there k) ≡ true) same is
    go rec false is e c = absurd (cc)

-- the least absent page is a page
absent_there : (n a : ℕ) (released : List ℕ) (there : Pages) (p : ℕ) → first_absent (range_with_len a n) released there ≡ Some p → p < a + n
absent_there zero a released there p e = absurd (cc)
absent_there (suc n) a released there p e = go (λ f. absent_there n (a + 1) released there p f) (is_listed a released || there a) e
  where
    go : (first_absent (range_with_len (a + 1) n) released there ≡ Some p → p < a + 1 + n) → (b : Bool) → cond b (first_absent (range_with_len (a + 1) n) released there) (Some a) ≡ Some p → p < a + suc n
    go rec true e = omega (arith, rec e)
    go rec false e = let same : a ≡ p = cc in omega arith

or_false : (x y : Bool) → x ≡ false → (x || y) ≡ true → y ≡ true
or_false true y e f = absurd (cc)
or_false false y e f = f

-- `want p` is recorded
want_keeps : {o : List Name} (p : ℕ) (a : BooksAfter) → AwayKept o a → IsReady (session_after a) → p < a.source.geometry.pages →
    AwayKept (o ++ (Pager, length a.pager.log) ∷ []) (record a { pager = wants_page p a.pager })
want_keeps p a k ready lt =
    let s = session_after a in
    let t = pager_more (Want p) s in
    let new = pager_pushed (Want p) a k ready refl (names_none s) refl (λ q. refl) tt lt (λ e. absurd (cc)) in
    with_pager (wants_page p a.pager) (record a { pager = record a.pager { log = a.pager.log ++ Want p ∷ [] } }) new
    (record { geometry = new.pager.geometry; unready = new.pager.unready; ready = new.pager.ready; inbox = new.pager.inbox; outbox = new.pager.outbox; waiting = new.pager.waiting; wants = λ q n e. at q n (p == q) refl e (new.pager.wants q n) })
    k.placed k.settled
  where
    at : (q n : ℕ) (b : Bool) → (p == q) ≡ b → cond b (Some (length a.pager.log)) (a.pager.wants q) ≡ Some n → (a.pager.wants q ≡ Some n → slice_get (a.pager.log ++ Want p ∷ []) n ≡ Some (Want q)) → slice_get (a.pager.log ++ Want p ∷ []) n ≡ Some (Want q)
    at q n true is e old =
        let same : length a.pager.log ≡ n = cc in
        subst (λ m. slice_get (a.pager.log ++ Want p ∷ []) m ≡ Some (Want q)) same (get_new a.pager.log (Want p) ∙ ap (λ j. Some (Want j)) (eqb-true p q is))
    at q n false is e old = old e

-- PagerTick
asked_again_keeps : (o : List Name) (p : ℕ) (a : BooksAfter) → AwayKept o a → IsReady (session_after a) → p < a.source.geometry.pages →
    Arrives o a (sent_up (record { book = wants_page p a.pager; packet = Some (WantPacket (length a.pager.log) p) }) a)
asked_again_keeps o p a k ready lt =
    close_pager o (session_after a) (Want p) _
    (up_keeps (WantPacket (length a.pager.log) p) (record a { pager = wants_page p a.pager }) (want_keeps p a k ready lt) (get_new a.pager.log (Want p)))

-- the pages that are placed or settled
abbrev come : PagerPart → Pages
come pager p = pager.placed p || pager.settled p

or_kept : (x y z w : Bool) → x ≡ z → (y ≡ true → w ≡ true) → (x || y) ≡ true → (z || w) ≡ true
or_kept true y z w same kept e = ap (λ b. b || w) (sym same)
or_kept false y z w same kept e = ap (λ b. b || w) (sym same) ∙ kept e

all_keeps : (o : List Name) (rel : List ℕ) (a : BooksAfter) → AwayKept o a → IsReady (session_after a) → rel ≡ released_of a → first_absent (range_with_len 0 a.pager.geometry.pages) rel (come a.pager) ≡ None → Arrives o a (sent_up (ticks_at None a.pager) a)
all_keeps o rel a k ready same none =
    let s = session_after a in
    close_pager o s All _
    (up_keeps (AllPacket (length s.pager)) (record a { pager = record a.pager { log = a.pager.log ++ All ∷ [] } })
    (pager_pushed All a k ready refl (names_none s) refl (λ q. refl) tt tt (λ e p lt owed. complete p lt owed))
    (get_new s.pager All))
  where
    complete : (p : ℕ) → p < a.source.geometry.pages → a.source.ledger p ≡ false → is_there a.target p ≡ true
    complete p lt owed =
        let pages = a.source.geometry.pages in
        let there = none_absent a.pager.geometry.pages 0 rel (come a.pager) none p (omega arith) (omega (arith, lt, ap (λ (e : Extent). e.pages) k.pager.geometry)) in
        let out : is_listed p rel ≡ false = ap (λ r. is_listed p r) same ∙ unlisted a.source.ledger (range_with_len 0 pages) p owed in
        or_kept (a.pager.placed p) (a.pager.settled p) (is_some (a.target.placed p)) (a.target.freed p) (k.placed p) (k.settled p) (or_false (is_listed p rel) (come a.pager p) out there)

oldest_there : (xs : List Waiting) (s : Recorded) (p : ℕ) → AllByRecursion (IsWaitedFor s) xs → p < s.geometry.pages → oldest xs p < s.geometry.pages
oldest_there [] s p all lt = lt
oldest_there (x ∷ xs) s p all lt = all.0

pub pager_ticked_keeps : (o : List Name) (rel : Option (List ℕ)) (a : BooksAfter) → AwayKept o a → a.pager.released ≡ rel → Arrives o a (sent_up (ticks rel a.pager) a)
pager_ticked_keeps o None a k e = close_none o (session_after a) a k
pager_ticked_keeps o (Some rel) a k e = go (first_absent (range_with_len 0 a.pager.geometry.pages) rel (come a.pager)) refl
  where
    go : (q : Option ℕ) → first_absent (range_with_len 0 a.pager.geometry.pages) rel (come a.pager) ≡ q → Arrives o a (sent_up (ticks_at q a.pager) a)
    go None is = all_keeps o rel a k (k.pager.ready rel e).1 (k.pager.ready rel e).0 is
    go (Some p) is =
        let lt : p < a.source.geometry.pages = omega (arith, absent_there a.pager.geometry.pages 0 rel (come a.pager) p is, ap (λ (e : Extent). e.pages) k.pager.geometry) in
        asked_again_keeps o (oldest a.pager.waiting p) a k (k.pager.ready rel e).1 (oldest_there a.pager.waiting (session_after a) p k.pager.waiting lt)

-- the pager may take a delivery by this record: of the source's record with this number
record MayTake (s : Recorded) (r : PagerRec) (number : ℕ) : Type 0 where
  takes : is_taking r ≡ true
  came : taken_sending s r ≡ Some number
  named : pager_named s (length s.pager) r ≡ true
  there : IsThere s (pager_receipt r)
  within : PagerWithin s.version s.geometry r
  goes_on : pager_goes_on r ≡ true
  places_none : (p : ℕ) → is_placement_of p r ≡ false
  clean : (cells : ℕ) (memory : Memory) (ledger : Pages) (log : List PagerRec) (n : ℕ) → PagerClean cells memory ledger log n r
  not_all : r ≡ All → ⊥

may_get : (s : Recorded) (i n : ℕ) → slice_get s.link i ≡ Some (Down n) → MayTake s (Got i) n
may_get s i n is = record {
  takes = refl;
  came = ap (λ o. if_there down_sending o) is;
  named = passes_at is_down s.link i (Down n) is refl;
  there = names s (Link, i) (slice_get_within s.link i (Down n) is);
  within = tt;
  goes_on = refl;
  places_none = λ p. refl;
  clean = λ cells memory ledger log m. tt;
  not_all = λ e. cc;
}

may_pull : (s : Recorded) (i n : ℕ) → HasLane s.version → slice_get s.lane i ≡ Some (LaneDown n) → MayTake s (Pull i) n
may_pull s i n has is = record {
  takes = refl;
  came = ap (λ o. option_map lane_sending o) is;
  named = ap is_some is;
  there = names s (Lane, i) (slice_get_within s.lane i (LaneDown n) is);
  within = has;
  goes_on = refl;
  places_none = λ p. refl;
  clean = λ cells memory ledger log m. tt;
  not_all = λ e. cc;
}

-- the books after this record of the pager
abbrev noted : PagerRec → BooksAfter → BooksAfter
noted r a = record a { pager = record a.pager { log = a.pager.log ++ r ∷ [] } }

taking_keeps : {o : List Name} (r : PagerRec) (n : ℕ) (a : BooksAfter) → AwayKept o a → IsReady (session_after a) → MayTake (session_after a) r n → AwayKept (o ++ (Pager, length a.pager.log) ∷ []) (noted r a)
taking_keeps r n a k ready may =
    pager_pushed r a k ready may.named may.there may.goes_on may.places_none (may.clean a.source.geometry.cells a.source.memory a.source.ledger a.pager.log (length a.pager.log)) may.within (λ e. absurd (may.not_all e))

skip_keeps : {o : List Name} (g : ℕ) (r : PagerRec) (a : BooksAfter) → AwayKept o a → IsReady (session_after a) → slice_get a.pager.log g ≡ Some r → is_taking r ≡ true → AwayKept (o ++ (Pager, length a.pager.log) ∷ []) (noted (Skip g) a)
skip_keeps g r a k ready is takes =
    let s = session_after a in
    pager_pushed (Skip g) a k ready
    (and_both _ _ (lt-ltb g (length s.pager) (slice_get_within s.pager g r is)) (passes_at is_taking s.pager g r is takes))
    (names_none s) refl (λ q. refl) tt tt (λ e. absurd (cc))

-- a page, or a state, is taken from the link or from the lane
taken_packet_keeps : (o : List Name) (r : PagerRec) (packet : Packet) (a : BooksAfter) → AwayKept o a → IsReady (session_after a) → MayTake (session_after a) r (number_of packet) → DownFact (session_after a) (released_of a) packet → Arrives o a (record a { pager = takes r packet a.pager })
taken_packet_keeps o r (StatePacket n rel) a k ready may fact =
    let s = session_after a in
    close_pager_two o s r (Skip (length s.pager)) _
    (skip_keeps (length s.pager) r (noted r a) (taking_keeps r n a k ready may) (get_old s.pager (r ∷ []) 1 Ready ready) (get_new s.pager r) may.takes)
taken_packet_keeps o r (PagePacket n p content) a k ready may fact =
    let s = session_after a in
    let t = pager_more r s in
    let x = pager_extends r s in
    let new = taking_keeps r n a k ready may in
    let come : Incoming = record { got = length s.pager; page = p; contents = content } in
    close_pager o s r _
    (with_pager (takes r (PagePacket n p content) a.pager) (noted r a) new
    (record {
      geometry = new.pager.geometry;
      unready = new.pager.unready;
      ready = new.pager.ready;
      inbox = each_push (HasCome t) a.pager.inbox come new.pager.inbox
          (record { taking = r; number = n; got = get_new s.pager r; takes = may.takes; came = taken_stays s t x r n may.came; is_page = down_fact_stays s t x (released_of a) (PagePacket n p content) fact });
      outbox = new.pager.outbox;
      waiting = new.pager.waiting;
      wants = new.pager.wants;
    })
    k.placed k.settled)
taken_packet_keeps o r (WantPacket n p) a k ready may fact = close_none o (session_after a) a k
taken_packet_keeps o r (AllPacket n) a k ready may fact = close_none o (session_after a) a k

-- PagerPop
-- the first pop of a state, which makes the pager ready
first_keeps : (o : List Name) (i n : ℕ) (rel : List ℕ) (a : BooksAfter) → AwayKept o a → a.pager.released ≡ None → DownArrived (session_after a) (released_of a) (record { number = i; packet = StatePacket n rel }) →
    AwayKept ((o ++ (Pager, length a.pager.log) ∷ []) ++ (Pager, length (a.pager.log ++ Got i ∷ [])) ∷ []) (record a { pager = pops_first i (StatePacket n rel) a.pager })
first_keeps o i n rel a k unready fact = record {
  named = pager_shapes Ready s1 (pager_shapes (Got i) s0 k.named (passes_at is_down s0.link i (Down n) fact.0 refl)) refl;
  started = record {
    source = k.started.source;
    pager = all_push start start (s0.pager ++ Got i ∷ []) Ready
        (all_push start start s0.pager (Got i) (λ m y is. no_record s0.pager blank m y is) (λ m y is h. h) (subst (λ m. start m (Got i)) (sym none) delivers_state))
        (λ m y is h. h) (subst (λ m. start m Ready) (sym one) refl);
  };
  merges = pager_merges Ready s1 (o ++ (Pager, length s0.pager) ∷ []) (names_none s1) (pager_merges (Got i) s0 o (names s0 (Link, i) (slice_get_within s0.link i (Down n) fact.0)) k.merges);
  clean = pager_cleans Ready s1 a.source.memory a.source.ledger tt (pager_cleans (Got i) s0 a.source.memory a.source.ledger tt k.clean);
  frozen = record { memory_is = k.frozen.memory_is; ledger_is = k.frozen.ledger_is; halt_stands = k.frozen.halt_stands };
  limits = pager_limits Ready s1 tt (pager_limits (Got i) s0 tt k.limits);
  phase = record { halted = k.phase.halted; resumes = k.phase.resumes; home_is = k.phase.home_is };
  resumed_ready = λ e. ready;
  source = record { sends = k.source.sends; state = k.source.state; wide = k.source.wide };
  link = link_stays s1 s2 x2 (released_of a) a.link (link_stays s0 s1 x1 (released_of a) a.link k.link);
  pager = record {
    geometry = k.pager.geometry;
    unready = λ e. absurd (let f : Some rel ≡ None = e in cc);
    ready = λ other e. ((let f : Some rel ≡ Some other = e in let g : rel ≡ released_of a = fact.1.0 in cc), ready);
    inbox = each_weaker (HasCome s1) (HasCome s2) (has_come_stays s1 s2 x2) a.pager.inbox (each_weaker (HasCome s0) (HasCome s1) (has_come_stays s0 s1 x1) a.pager.inbox k.pager.inbox);
    outbox = each_weaker (UpFact s1) (UpFact s2) (up_fact_stays s1 s2 x2) a.pager.outbox (each_weaker (UpFact s0) (UpFact s1) (up_fact_stays s0 s1 x1) a.pager.outbox k.pager.outbox);
    waiting = k.pager.waiting;
    wants = λ p m e. x2.pager m _ (x1.pager m _ (k.pager.wants p m e));
  };
  placed = k.placed;
  settled = k.settled;
  target = record {
    places = index_other is_placement_of a.target.placed s1.pager Ready (λ q. refl) (index_other is_placement_of a.target.placed s0.pager (Got i) (λ q. refl) k.target.places);
    frontier = k.target.frontier;
    frames = k.target.frames;
    untouched = k.target.untouched;
    released = k.target.released;
    over = λ p h. k.target.over p (over_pager (Got i) s0 p (over_pager Ready s1 p h));
    unsettled = k.target.unsettled;
    misses = misses_stay s1 s2 x2 a.target.misses (misses_stay s0 s1 x1 a.target.misses k.target.misses);
    wide = k.target.wide;
  };
  ends = record { all = not_new s1.pager Ready All (not_new s0.pager (Got i) All k.ends.all (λ e. absurd (cc))) (λ e. absurd (cc)); done = k.ends.done };
  vcpus = k.vcpus;
  lanes = k.lanes;
}
  where
    s0 : Recorded
    s0 = session_after a

    s1 : Recorded
    s1 = pager_more (Got i) (session_after a)

    s2 : Recorded
    s2 = pager_more Ready (pager_more (Got i) (session_after a))

    x1 : Extends (session_after a) (pager_more (Got i) (session_after a))
    x1 = pager_extends (Got i) (session_after a)

    x2 : Extends (pager_more (Got i) (session_after a)) (pager_more Ready (pager_more (Got i) (session_after a)))
    x2 = pager_extends Ready (pager_more (Got i) (session_after a))

    start : ℕ → PagerRec → Type 0
    start m y = pager_start (pager_more Ready (pager_more (Got i) (session_after a))) m y ≡ true

    blank : a.pager.log ≡ []
    blank = k.pager.unready unready

    none : length a.pager.log ≡ 0
    none = ap (λ (l : List PagerRec). length l) (k.pager.unready unready)

    one : length (a.pager.log ++ Got i ∷ []) ≡ 1
    one = length_suc a.pager.log (Got i) ∙ ap suc (ap (λ (l : List PagerRec). length l) (k.pager.unready unready))

    no_record : (log : List PagerRec) → log ≡ [] → (m : ℕ) (y : PagerRec) → slice_get log m ≡ Some y → {B : Type 0} → B
    no_record log e m y is = absurd (let f : slice_get log m ≡ None = ap (λ l. slice_get l m) e in cc)

    got : slice_get ((a.pager.log ++ Got i ∷ []) ++ Ready ∷ []) 0 ≡ Some (Got i)
    got = get_old (a.pager.log ++ Got i ∷ []) (Ready ∷ []) 0 (Got i) (subst (λ m. slice_get (a.pager.log ++ Got i ∷ []) m ≡ Some (Got i)) (ap (λ (l : List PagerRec). length l) (k.pager.unready unready)) (get_new a.pager.log (Got i)))

    ready : slice_get ((a.pager.log ++ Got i ∷ []) ++ Ready ∷ []) 1 ≡ Some Ready
    ready = subst (λ m. slice_get ((a.pager.log ++ Got i ∷ []) ++ Ready ∷ []) m ≡ Some Ready) (length_suc a.pager.log (Got i) ∙ ap suc (ap (λ (l : List PagerRec). length l) (k.pager.unready unready))) (get_new (a.pager.log ++ Got i ∷ []) Ready)

    state_there : IsStateNumber (session_after a) n → passes (is_or_repeats (pager_more Ready (pager_more (Got i) (session_after a))) is_state) (slice_get a.source.log n) ≡ true
    state_there (inl e) = passes_at (is_or_repeats (pager_more Ready (pager_more (Got i) (session_after a))) is_state) a.source.log n State e refl
    state_there (inr h) = passes_at (is_or_repeats (pager_more Ready (pager_more (Got i) (session_after a))) is_state) a.source.log n (Again h.0) h.1 (passes_at is_state a.source.log h.0 State h.2 refl)

    delivers_state : delivers (pager_more Ready (pager_more (Got i) (session_after a))) is_state 0 ≡ true
    delivers_state =
        ap (λ o. passes (λ m. passes (is_or_repeats (pager_more Ready (pager_more (Got i) (session_after a))) is_state) (slice_get a.source.log m)) o)
        (ap (λ o. if_there (taken_sending (pager_more Ready (pager_more (Got i) (session_after a)))) o) got ∙ ap (λ o. if_there down_sending o) fact.0)
        ∙ state_there fact.1.1

first_packet_keeps : (o : List Name) (i : ℕ) (packet : Packet) (a : BooksAfter) → AwayKept o a → a.pager.released ≡ None → DownArrived (session_after a) (released_of a) (record { number = i; packet = packet }) → Arrives o a (record a { pager = pops_first i packet a.pager })
first_packet_keeps o i (StatePacket n rel) a k unready fact = close_pager_two o (session_after a) (Got i) Ready _ (first_keeps o i n rel a k unready fact)
first_packet_keeps o i (PagePacket n p content) a k unready fact = close_none o (session_after a) a k
first_packet_keeps o i (WantPacket n p) a k unready fact = close_none o (session_after a) a k
first_packet_keeps o i (AllPacket n) a k unready fact = close_none o (session_after a) a k

pub popped_keeps : (o : List Name) (xs : List Arrival) (a : BooksAfter) → AwayKept o a → a.link.down_arrivals ≡ xs → Arrives o a (popped xs a)
popped_keeps o [] a k e = close_none o (session_after a) a k
popped_keeps o (x ∷ rest) a k e = go a.pager.released refl
  where
    facts : AllByRecursion (DownArrived (session_after a) (released_of a)) (x ∷ rest)
    facts = subst (λ ys. AllByRecursion (DownArrived (session_after a) (released_of a)) ys) e k.link.down.come

    new : AwayKept o (record a { link = record a.link { down_arrivals = rest } })
    new = with_link (record a.link { down_arrivals = rest }) a k (record { down = record { under_way = k.link.down.under_way; come = facts.1 }; up = k.link.up; lane = k.link.lane })

    go : (q : Option (List ℕ)) → a.pager.released ≡ q → Arrives o a (record a { link = record a.link { down_arrivals = rest }; pager = pops_by q x.number x.packet a.pager })
    go None is = first_packet_keeps o x.number x.packet (record a { link = record a.link { down_arrivals = rest } }) new is facts.0
    go (Some rel) is = taken_packet_keeps o (Got x.number) x.packet (record a { link = record a.link { down_arrivals = rest } }) new (k.pager.ready rel is).1 (may_get (session_after a) x.number (number_of x.packet) facts.0.0) facts.0.1

-- PagerPull
pub pulled_keeps : (o : List Name) (xs : List Arrival) (a : BooksAfter) → AwayKept o a → a.link.lane_arrivals ≡ xs → Arrives o a (pulled xs a)
pulled_keeps o [] a k e = close_none o (session_after a) a k
pulled_keeps o (x ∷ rest) a k e = go a.pager.released refl
  where
    facts : AllByRecursion (LaneArrived (session_after a) (released_of a)) (x ∷ rest)
    facts = subst (λ ys. AllByRecursion (LaneArrived (session_after a) (released_of a)) ys) e k.link.lane.come

    new : AwayKept o (record a { link = record a.link { lane_arrivals = rest } })
    new = with_link (record a.link { lane_arrivals = rest }) a k (record { down = k.link.down; up = k.link.up; lane = record { under_way = k.link.lane.under_way; come = facts.1 } })

    go : (q : Option (List ℕ)) → a.pager.released ≡ q → Arrives o a (record a { link = record a.link { lane_arrivals = rest }; pager = pulls_by q x.number x.packet a.pager })
    go None is = close_none o (session_after a) _ new
    go (Some rel) is = taken_packet_keeps o (Pull x.number) x.packet (record a { link = record a.link { lane_arrivals = rest } }) new (k.pager.ready rel is).1 (may_pull (session_after a) x.number (number_of x.packet) facts.0.1.0 facts.0.0) facts.0.1.1

-- PagerDeliver
delivers_page : (s : Recorded) (x : Incoming) → HasCome s x → delivers s (is_send_of x.page) x.got ≡ true
delivers_page s x h = ap (λ o. passes (λ n. passes (is_or_repeats s (is_send_of x.page)) (slice_get s.source n)) o) delivery_is ∙ at h.is_page.is_it
  where
    delivery_is : delivery s x.got ≡ Some h.number
    delivery_is = ap (λ o. if_there (taken_sending s) o) h.got ∙ h.came

    itself : is_or_repeats s (is_send_of x.page) (Send x.page x.contents) ≡ true
    itself = eq-eqb x.page x.page refl

    at : (h.number ≡ h.is_page.send) ⊎ (slice_get s.source h.number ≡ Some (Again h.is_page.send)) → passes (is_or_repeats s (is_send_of x.page)) (slice_get s.source h.number) ≡ true
    at (inl e) = ap (λ n. passes (is_or_repeats s (is_send_of x.page)) (slice_get s.source n)) e ∙ passes_at (is_or_repeats s (is_send_of x.page)) s.source h.is_page.send _ h.is_page.sent itself
    at (inr e) = passes_at (is_or_repeats s (is_send_of x.page)) s.source h.number _ e (passes_at (is_send_of x.page) s.source h.is_page.send _ h.is_page.sent (eq-eqb x.page x.page refl))

-- a page that is not there was not placed
unplaced : (placed : Option ℕ) (freed : Bool) → is_resident placed freed ≡ false → placed ≡ None
unplaced None freed e = refl
unplaced (Some n) freed e = absurd (cc)

placed_keeps : (o : List Name) (x : Incoming) (a : BooksAfter) → AwayKept o a → IsReady (session_after a) → HasCome (session_after a) x → is_there a.target x.page ≡ false → Arrives o a (paged (places x a.pager a.target) a)
placed_keeps o x a k ready h absent =
    let s = session_after a in
    let p = x.page in
    let sent = k.clean.source h.is_page.send (Send p x.contents) h.is_page.sent in
    let lt = lt-ltb x.got (length s.pager) (slice_get_within s.pager x.got h.taking h.got) in
    let content : IsContent s.geometry.cells x.contents = subst (λ c. IsContent s.geometry.cells c) (sym sent.1) (content_fits s.geometry.cells a.source.memory p k.source.wide) in
    close_pager o s (Place p x.got x.contents) _
    (put_pushed (Place p x.got x.contents) p (with_content p x.contents a.target.memory) (without p a.pager.waiting) a k ready
    (and_both _ _ lt (delivers_page s x h)) (names_none s) refl absent (λ q. refl)
    (k.target.places.none p (unplaced (a.target.placed p) (a.target.freed p) absent), sent.1) (k.limits.source h.is_page.send (Send p x.contents) h.is_page.sent) (λ e. cc)
    (λ c lt. here c lt (p == p) (eq-eqb p p refl) sent.1)
    (λ q c e. ap (λ b. cond b (slice_index x.contents c) (a.target.memory q c)) e)
    (wide_content p x.contents a.target.memory content.each k.target.wide)
    (each_kept (IsWaitedFor s) (λ e. not (p == e.page)) a.pager.waiting k.pager.waiting))
  where
    here : (c : ℕ) → c < a.source.geometry.cells → (b : Bool) → b ≡ true → x.contents ≡ page_of a.source.geometry.cells a.source.memory x.page → cond b (slice_index x.contents c) (a.target.memory x.page c) ≡ a.source.memory x.page c
    here c lt true e is = ap (λ l. slice_index l c) is ∙ content_at a.source.memory a.source.geometry.cells x.page c lt
    here c lt false e is = absurd (cc)

delivered_at_keeps : (o : List Name) (x : Incoming) (a : BooksAfter) → AwayKept o a → IsReady (session_after a) → HasCome (session_after a) x → Arrives o a (paged (delivers_at x a.pager a.target) a)
delivered_at_keeps o x a k ready h = go (is_there a.target x.page) refl
  where
    go : (b : Bool) → is_there a.target x.page ≡ b → Arrives o a (paged (cond b (record { pager = record a.pager { log = a.pager.log ++ Skip x.got ∷ [] }; target = a.target; woken = [] }) (places x a.pager a.target)) a)
    go true e = close_pager o (session_after a) (Skip x.got) _ (skip_keeps x.got h.taking a k ready h.got h.takes)
    go false e = placed_keeps o x a k ready h e

delivered_next_keeps : (o : List Name) (xs : List Incoming) (a : BooksAfter) → AwayKept o a → IsReady (session_after a) → a.pager.inbox ≡ xs → Arrives o a (paged (delivers_next xs a.pager a.target) a)
delivered_next_keeps o [] a k ready e = close_none o (session_after a) a k
delivered_next_keeps o (x ∷ rest) a k ready e =
    let P = HasCome (session_after a) in
    let facts : AllByRecursion P (x ∷ rest) = subst (λ ys. AllByRecursion P ys) e k.pager.inbox in
    delivered_at_keeps o x (record a { pager = record a.pager { inbox = rest } })
    (with_pager (record a.pager { inbox = rest }) a k (record { geometry = k.pager.geometry; unready = k.pager.unready; ready = k.pager.ready; inbox = facts.1; outbox = k.pager.outbox; waiting = k.pager.waiting; wants = k.pager.wants }) k.placed k.settled)
    ready facts.0

delivered_by_keeps : (o : List Name) (q : Option (List ℕ)) (a : BooksAfter) → AwayKept o a → a.pager.released ≡ q → Arrives o a (paged (delivers_by q a.pager a.target) a)
delivered_by_keeps o None a k e = close_none o (session_after a) a k
delivered_by_keeps o (Some rel) a k e = go a.target.is_resumed refl
  where
    go : (b : Bool) → a.target.is_resumed ≡ b → Arrives o a (paged (cond b (delivers_next a.pager.inbox a.pager a.target) (record { pager = a.pager; target = resumes a.target; woken = [] })) a)
    go true is = delivered_next_keeps o a.pager.inbox a k (k.pager.ready rel e).1 refl
    go false is = close_guest o (session_after a) (Resume 1) _ (resume_pushed a k is (k.pager.ready rel e).1)

pub delivered_keeps : (o : List Name) (a : BooksAfter) → AwayKept o a → Arrives o a (paged (deliver a.pager a.target) a)
delivered_keeps o a k = settled_arrives o a _ (delivered_by_keeps o a.pager.released (settled_books a) (settled_keeps a k) (settles_released a.target.unsettled a.pager))

-- PagerFault
zeroed_keeps : {o : List Name} (p : ℕ) (rel : List ℕ) (a : BooksAfter) → AwayKept o a → IsReady (session_after a) → p < a.source.geometry.pages → is_there a.target p ≡ false → rel ≡ released_of a → is_listed p rel ≡ true →
    AwayKept (o ++ (Pager, length a.pager.log) ∷ []) (paged (zeroes p a.pager a.target) a)
zeroed_keeps p rel a k ready low absent same listed =
    let s = session_after a in
    let out : a.source.ledger p ≡ true = listed_released a.source.ledger (range_with_len 0 s.geometry.pages) p (ap (λ r. is_listed p r) (sym same) ∙ listed) in
    let released : in_ledger s (at_halt s) p ≡ true = sym (k.frozen.ledger_is p) ∙ out in
    put_pushed (Zero p) p (with_zeros p a.target.memory) a.pager.waiting a k ready refl (names_none s) refl absent (λ q. refl)
    (k.target.places.none p (unplaced (a.target.placed p) (a.target.freed p) absent), out) low (λ e. cc)
    (λ c lt. here c (p == p) (eq-eqb p p refl) (k.frozen.memory_is p c ∙ released_zero s (at_halt s) p c released))
    (λ q c e. ap (λ b. cond b 0 (a.target.memory q c)) e)
    (wide_zeros p a.target.memory k.target.wide) k.pager.waiting
  where
    here : (c : ℕ) (b : Bool) → b ≡ true → a.source.memory p c ≡ 0 → cond b 0 (a.target.memory p c) ≡ a.source.memory p c
    here c true e z = sym z
    here c false e z = absurd (cc)

joined_there : (p v : ℕ) (s : Recorded) (xs : List Waiting) → AllByRecursion (IsWaitedFor s) xs → AllByRecursion (IsWaitedFor s) (joined p v xs)
joined_there p v s xs all = each_mapped (IsWaitedFor s) (λ e. cond (p == e.page) (with_waiter v e) e) (λ e h. go e (p == e.page) h) xs all
  where
    go : (e : Waiting) (b : Bool) → IsWaitedFor s e → IsWaitedFor s (cond b (with_waiter v e) e)
    go e true h = h
    go e false h = h

join_keeps : {o : List Name} (p v w : ℕ) (a : BooksAfter) → AwayKept o a → IsReady (session_after a) → a.pager.wants p ≡ Some w →
    AwayKept (o ++ (Pager, length a.pager.log) ∷ []) (record a { pager = fault_join p v (Some w) a.pager })
join_keeps p v w a k ready e =
    let s = session_after a in
    let is = k.pager.wants p w e in
    let new = pager_pushed (Join w) a k ready (and_both _ _ (lt-ltb w (length s.pager) (slice_get_within s.pager w (Want p) is)) (passes_at is_want s.pager w (Want p) is refl)) (names_none s) refl (λ q. refl) tt tt (λ e. absurd (cc)) in
    with_pager (fault_join p v (Some w) a.pager) (record a { pager = record a.pager { log = a.pager.log ++ Join w ∷ [] } }) new
    (record { geometry = new.pager.geometry; unready = new.pager.unready; ready = new.pager.ready; inbox = new.pager.inbox; outbox = new.pager.outbox; waiting = joined_there p v s a.pager.waiting k.pager.waiting; wants = new.pager.wants })
    k.placed k.settled

new_keeps : {o : List Name} (p v : ℕ) (a : BooksAfter) → AwayKept o a → IsReady (session_after a) → p < a.source.geometry.pages →
    AwayKept (o ++ (Pager, length a.pager.log) ∷ []) (record a { pager = fault_new p v a.pager })
new_keeps p v a k ready lt =
    let s = session_after a in
    let t = pager_more (Want p) s in
    let new = want_keeps p a k ready lt in
    with_pager (fault_new p v a.pager) (record a { pager = wants_page p a.pager }) new
    (record {
      geometry = new.pager.geometry;
      unready = new.pager.unready;
      ready = new.pager.ready;
      inbox = new.pager.inbox;
      outbox = each_push (UpFact t) a.pager.outbox (WantPacket (length a.pager.log) p) new.pager.outbox (get_new a.pager.log (Want p));
      waiting = each_push (IsWaitedFor t) a.pager.waiting (entry p v) new.pager.waiting lt;
      wants = new.pager.wants;
    })
    k.placed k.settled

-- the books after `fault m`
abbrev faulted : ℕ → BooksAfter → BooksAfter
faulted m a = record a { pager = record a.pager { log = a.pager.log ++ Fault m ∷ [] } }

module _ (o : List Name) (m : ℕ) (a : BooksAfter) (k : AwayKept (o ++ (Pager, length a.pager.log) ∷ []) (faulted m a)) (ready : IsReady (session_after (faulted m a))) where
  fault_join_keeps : (p v : ℕ) (q : Option ℕ) → a.pager.wants p ≡ q → Arrives o a (record a { pager = fault_join p v q (faulted m a).pager })
  fault_join_keeps p v None e = close_pager o (session_after a) (Fault m) _ k
  fault_join_keeps p v (Some w) e = close_pager_two o (session_after a) (Fault m) (Join w) _ (join_keeps p v w (faulted m a) k ready e)

  fault_absent_keeps : (p v : ℕ) → p < a.source.geometry.pages → is_there a.target p ≡ false → Arrives o a (paged (fault_absent p v (faulted m a).pager a.target) a)
  fault_absent_keeps p v lt absent = go (is_waiting v a.pager.waiting) (is_released a.pager.released p) refl (is_asked p a.pager.waiting)
    where
      zero_at : (q : Option (List ℕ)) → a.pager.released ≡ q → is_released q p ≡ true → Arrives o a (paged (zeroes p (faulted m a).pager a.target) a)
      zero_at None e is = absurd (cc)
      zero_at (Some rel) e is = close_pager_two o (session_after a) (Fault m) (Zero p) _ (zeroed_keeps p rel (faulted m a) k ready lt absent (k.pager.ready rel e).0 is)

      go : (x y : Bool) → is_released a.pager.released p ≡ y → (z : Bool) → Arrives o a (paged (cond x (record { pager = (faulted m a).pager; target = a.target; woken = [] }) (cond y (zeroes p (faulted m a).pager a.target) (cond z (record { pager = fault_join p v (a.pager.wants p) (faulted m a).pager; target = a.target; woken = [] }) (record { pager = fault_new p v (faulted m a).pager; target = a.target; woken = [] })))) a)
      go true y e z = close_pager o (session_after a) (Fault m) _ k
      go false true e z = zero_at a.pager.released refl e
      go false false e true = fault_join_keeps p v (a.pager.wants p) refl
      go false false e false = close_pager_two o (session_after a) (Fault m) (Want p) _ (new_keeps p v (faulted m a) k ready lt)

  fault_at_keeps : (p v : ℕ) → p < a.source.geometry.pages → Arrives o a (paged (fault_at p v (faulted m a).pager a.target) a)
  fault_at_keeps p v lt = go (is_there a.target p) refl
    where
      go : (b : Bool) → is_there a.target p ≡ b → Arrives o a (paged (cond b (record { pager = (faulted m a).pager; target = a.target; woken = [] }) (fault_absent p v (faulted m a).pager a.target)) a)
      go true e = close_pager o (session_after a) (Fault m) _ k
      go false e = fault_absent_keeps p v lt e

with_misses : {o : List Name} (misses : List UntakenMiss) (a : BooksAfter) → AwayKept o a → AllByRecursion (HasMissed (session_after a)) misses → AwayKept o (record a { target = record a.target { misses = misses } })
with_misses misses a k new = record {
  named = k.named;
  started = k.started;
  merges = k.merges;
  clean = k.clean;
  frozen = k.frozen;
  limits = k.limits;
  phase = k.phase;
  resumed_ready = k.resumed_ready;
  source = k.source;
  link = k.link;
  pager = k.pager;
  placed = k.placed;
  settled = k.settled;
  target = record {
    places = k.target.places;
    frontier = k.target.frontier;
    frames = k.target.frames;
    untouched = k.target.untouched;
    released = k.target.released;
    over = k.target.over;
    unsettled = k.target.unsettled;
    misses = new;
    wide = k.target.wide;
  };
  ends = k.ends;
  vcpus = k.vcpus;
  lanes = k.lanes;
}

taken_keeps : (o : List Name) (xs : List UntakenMiss) (a : BooksAfter) → AwayKept o a → a.target.misses ≡ xs → Arrives o a (paged (faults xs a.pager a.target) a)
taken_keeps o [] a k e = close_none o (session_after a) a k
taken_keeps o (x ∷ rest) a k e =
    let s = session_after a in
    let facts : AllByRecursion (HasMissed s) (x ∷ rest) = subst (λ ys. AllByRecursion (HasMissed s) ys) e k.target.misses in
    let miss = facts.0.0 in
    let ready : IsReady s = facts.0.1 in
    let r = Miss x.vcpu x.page in
    let b = record a { target = record a.target { misses = rest } } in
    let new = pager_pushed (Fault x.number) b (with_misses rest a k facts.1) ready (passes_at is_miss s.guest x.number r miss refl) (names s (Guest, x.number) (slice_get_within s.guest x.number r miss)) refl (λ q. refl) tt tt (λ e. absurd (cc)) in
    fault_at_keeps o x.number b new (get_old s.pager (Fault x.number ∷ []) 1 Ready ready) x.page x.vcpu (k.limits.guest x.number r miss).1

taken_by_keeps : (o : List Name) (released : Option (List ℕ)) (a : BooksAfter) → AwayKept o a → Arrives o a (paged (faults_by released a.target.misses a.pager a.target) a)
taken_by_keeps o None a k = close_none o (session_after a) a k
taken_by_keeps o (Some released) a k = taken_keeps o a.target.misses a k refl

pub faulted_keeps : (o : List Name) (a : BooksAfter) → AwayKept o a → Arrives o a (paged (next_fault a.pager a.target) a)
faulted_keeps o a k = settled_arrives o a _ (taken_by_keeps o a.pager.released (settled_books a) (settled_keeps a k))
