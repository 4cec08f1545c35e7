-- The events of the source.
use Rattle.active_push.specs.SourcePart.{SourcePart, asks, goes_before, nearer, nearest, owes, pushes, sends, serves_all, serves_owed, serves_want, silent, source_push, source_serve, source_tick, state_packet, unsent, with_pivot}
use Rattle.audit_model.proofs.Consistent.{there}
use Rattle.audit_model.specs.Shape.{is_send_of, is_sending, is_up}
use Rattle.bubbling.specs.Bubbling.{Ring, in_turn, turned as ring_turned}
use Rattle.link_book.specs.LinkPart.{pushed_line, with_back, with_front, with_pushed}
use Rattle.link_book.specs.declared.Arrival.{Arrival}
use Rattle.migration_types.specs.Memory.{Memory, page_of}
use Rattle.page_store.specs.Tables.{with_value}
use Rattle.migration_types.specs.PageSets.{Pages}
use Rattle.migration_types.specs.Receipts.{Name}
use Rattle.migration_types.specs.declared.records.LinkRec.TheVariants.{Up}
use Rattle.migration_types.specs.declared.records.LogName.TheVariants.{Link, Source as FromSource}
use Rattle.migration_types.specs.declared.records.PagerRec.TheVariants.{All}
use Rattle.migration_types.specs.declared.records.SourceRec.{SourceRec}
use Rattle.migration_types.specs.declared.records.SourceRec.TheVariants.{Again, Ask, Back, Done, Halted, Send, State}
use Rattle.page_stream.specs.declared.Packet.{Packet}
use Rattle.page_stream.specs.declared.Packet.TheVariants.{All as AllPacket, Page as PagePacket, State as StatePacket, Want as WantPacket}
use Rattle.migration_model.proofs.Cleans.{SourceClean}
use Rattle.migration_model.proofs.Facts.{Arrives, AwayKept, IsPageNumber, UpArrived, close_none, close_source, close_source_two, source_pushed}
use Rattle.migration_model.proofs.Unrecorded.{back_keeps, front_keeps, lane_keeps, with_link}
use Rattle.migration_model.proofs.Grows.{names, names_none}
use Rattle.migration_model.proofs.Lists.{and_both, and_left, and_right, get_new, get_old, index_key, index_other, not_some, not_true, passes_at}
use Rattle.migration_model.specs.Events.{offered, pushed, served}
use Rattle.migration_model.specs.Books.{BooksAfter, session_after}
use Rattle.std.proofs.Common.{Bool, List, None, Option, Some, [], ap, cond, false, inl, inr, length, not, refl, subst, true, ℕ, ◌++◌, ◌<◌, ◌∙◌, ◌∷◌, ◌≡◌}
use Rattle.std.proofs.lemmas.Bool.{eqb-true, lt-ltb, ltb-true}
use Rattle.std.proofs.lemmas.Option.{slice_get_within}
use Rattle.std.specs.List.{AllByRecursion, range_with_len}
use Rattle.std.specs.Prelude.{is_some, nat_lt, slice_get}

-- the page that is chosen is of the set
pub nearest_in : (pivot : ℕ) (set : Pages) (xs : List ℕ) (q : ℕ) → nearest pivot set xs ≡ Some q → set q ≡ true
nearest_in pivot set [] q e = absurd (cc)
nearest_in pivot set (p ∷ ps) q e = go (set p) refl e (λ r f. nearest_in pivot set ps r f)
  where
    at : (b : Bool) (other : ℕ) → set p ≡ true → set other ≡ true → cond b p other ≡ q → set q ≡ true
    at true other here there e = subst (λ r. set r ≡ true) e here
    at false other here there e = subst (λ r. set r ≡ true) e there

    by : (found : Option ℕ) → nearest pivot set ps ≡ found → set p ≡ true → nearer pivot p found ≡ q → ((r : ℕ) → nearest pivot set ps ≡ Some r → set r ≡ true) → set q ≡ true
    by None is here e rec = subst (λ r. set r ≡ true) e here
    by (Some other) is here e rec = at (goes_before pivot p other) other here (rec other is) e

    go : (b : Bool) → set p ≡ b → cond b (Some (nearer pivot p (nearest pivot set ps))) (nearest pivot set ps) ≡ Some q → ((r : ℕ) → nearest pivot set ps ≡ Some r → set r ≡ true) → set q ≡ true
    go true is e rec = by (nearest pivot set ps) refl is (let f : nearer pivot p (nearest pivot set ps) ≡ q = cc in f) rec
    go false is e rec = rec q e

owed_not : (b : SourcePart) (p : ℕ) → owes b p ≡ true → b.ledger p ≡ false
owed_not b p e = not_true _ (and_right _ _ e)

owed_there : (b : SourcePart) (p : ℕ) → owes b p ≡ true → p < b.geometry.pages
owed_there b p e = ltb-true p b.geometry.pages (and_left _ _ e)

abbrev content_of : BooksAfter → ℕ → List ℕ
content_of a p = page_of a.source.geometry.cells a.source.memory p

-- the books after a first sending
abbrev sent : ℕ → Ring → BooksAfter → BooksAfter
sent p ring a = record a { source = (sends p (record a.source { ring = ring })).book }

send_keeps : {o : List Name} (p : ℕ) (ring : Ring) (a : BooksAfter) → AwayKept o a → owes a.source p ≡ true → a.source.sent p ≡ None →
    AwayKept (o ++ (FromSource, length a.source.log) ∷ []) (sent p ring a)
send_keeps p ring a k owed unsent =
    let s = session_after a in
    source_pushed (Send p (content_of a p)) (with_value p (Some (length s.source)) a.source.sent) ring a.source.was_asked a.source.is_done a k refl
    (ap (λ b. not b) (k.source.sends.none p unsent)) (names_none s) refl (owed_not a.source p owed, refl) (owed_there a.source p owed)
    (index_key is_send_of a.source.sent s.source (Send p (content_of a p)) p (λ q. refl) k.source.sends)
    (λ e. absurd (cc))

new_page : (p : ℕ) (ring : Ring) (a : BooksAfter) → IsPageNumber (session_after (sent p ring a)) (length a.source.log) p (content_of a p)
new_page p ring a = record { send = length a.source.log; sent = get_new a.source.log _; is_it = inl refl }

-- Push
pub pushed_keeps : (o : List Name) (a : BooksAfter) → AwayKept o a → Arrives o a (pushed a)
pushed_keeps o a k = go a.has_lane refl (nat_lt (length (pushed_line a.has_lane a.link)) a.window)
  where
    page : ℕ → Packet
    page p = PagePacket (length a.source.log) p (content_of a p)

    chosen_keeps : (p : ℕ) → nearest (in_turn a.source.ring) (unsent a.source) (range_with_len 0 a.source.geometry.pages) ≡ Some p → AwayKept (o ++ (FromSource, length a.source.log) ∷ []) (sent p (ring_turned a.source.ring) a)
    chosen_keeps p e =
        let is : unsent a.source p ≡ true = nearest_in (in_turn a.source.ring) (unsent a.source) (range_with_len 0 a.source.geometry.pages) p e in
        send_keeps p (ring_turned a.source.ring) a k (and_left (owes a.source p) (not (is_some (a.source.sent p))) is) (not_some (a.source.sent p) (and_right (owes a.source p) (not (is_some (a.source.sent p))) is))

    at : (over_lane : Bool) → a.has_lane ≡ over_lane → (q : Option ℕ) → nearest (in_turn a.source.ring) (unsent a.source) (range_with_len 0 a.source.geometry.pages) ≡ q → Arrives o a (offered (with_pushed over_lane) (pushes q a.source) a)
    at over_lane is None e = close_none o (session_after a) a k
    at true is (Some p) e = close_source o (session_after a) (Send p (content_of a p)) _ (lane_keeps (page p) (sent p (ring_turned a.source.ring) a) (chosen_keeps p e) (k.lanes is, new_page p (ring_turned a.source.ring) a))
    at false is (Some p) e = close_source o (session_after a) (Send p (content_of a p)) _ (back_keeps (page p) (sent p (ring_turned a.source.ring) a) (chosen_keeps p e) (new_page p (ring_turned a.source.ring) a))

    by : (over_lane : Bool) → a.has_lane ≡ over_lane → (b : Bool) → Arrives o a (offered (with_pushed over_lane) (cond b (silent a.source) (pushes (nearest (in_turn a.source.ring) (unsent a.source) (range_with_len 0 a.source.geometry.pages)) a.source)) a)
    by over_lane is true = close_none o (session_after a) a k
    by over_lane is false = at over_lane is (nearest (in_turn a.source.ring) (unsent a.source) (range_with_len 0 a.source.geometry.pages)) refl

    go : (over_lane : Bool) → a.has_lane ≡ over_lane → (b : Bool) → Arrives o a (cond b (offered (with_pushed over_lane) (source_push a.source) a) a)
    go over_lane is true = by over_lane is a.source.is_done
    go over_lane is false = close_none o (session_after a) a k

-- Serve
abbrev asked : ℕ → BooksAfter → BooksAfter
asked i a = record a { source = asks i a.source }

asked_keeps : {o : List Name} (i n : ℕ) (a : BooksAfter) → AwayKept o a → slice_get a.link.log i ≡ Some (Up n) → AwayKept (o ++ (FromSource, length a.source.log) ∷ []) (asked i a)
asked_keeps i n a k is =
    let s = session_after a in
    source_pushed (Ask i) a.source.sent a.source.ring true a.source.is_done a k (passes_at is_up s.link i (Up n) is refl) refl
    (names s (Link, i) (slice_get_within s.link i (Up n) is)) refl tt tt
    (index_other is_send_of a.source.sent s.source (Ask i) (λ q. refl) k.source.sends) (λ e. absurd (cc))

-- a page that was sent was sent with its content at the halt
the_send : (p : ℕ) (cells : ℕ) (memory : Memory) (ledger : Pages) (r : SourceRec) → is_send_of p r ≡ true → SourceClean cells memory ledger r → r ≡ Send p (page_of cells memory p)
the_send p cells memory ledger (Send q content) is h =
    let same : q ≡ p = eqb-true q p is in
    let c : content ≡ page_of cells memory p = h.1 ∙ ap (λ j. page_of cells memory j) same in
    cc
the_send p cells memory ledger (Halted n) is h = absurd (cc)
the_send p cells memory ledger State is h = absurd (cc)
the_send p cells memory ledger (Again n) is h = absurd (cc)
the_send p cells memory ledger (Ask n) is h = absurd (cc)
the_send p cells memory ledger Done is h = absurd (cc)
the_send p cells memory ledger Back is h = absurd (cc)

sent_before : {o : List Name} (p n : ℕ) (a : BooksAfter) → AwayKept o a → a.source.sent p ≡ Some n → slice_get a.source.log n ≡ Some (Send p (content_of a p))
sent_before p n a k e =
    let w = k.source.sends.found p n e in
    w.1 ∙ ap Some (the_send p a.source.geometry.cells a.source.memory a.source.ledger w.0 w.2 (k.clean.source n w.0 w.1))

-- the books after a second sending
abbrev repeated : ℕ → Ring → BooksAfter → BooksAfter
repeated n ring a = record a { source = record a.source { log = a.source.log ++ Again n ∷ []; ring = ring } }

again_keeps : {o : List Name} (n : ℕ) (ring : Ring) (r : SourceRec) (a : BooksAfter) → AwayKept o a → slice_get a.source.log n ≡ Some r → is_sending r ≡ true →
    AwayKept (o ++ (FromSource, length a.source.log) ∷ []) (repeated n ring a)
again_keeps n ring r a k is sends =
    let s = session_after a in
    source_pushed (Again n) a.source.sent ring a.source.was_asked a.source.is_done a k
    (and_both _ _ (lt-ltb n (length s.source) (slice_get_within s.source n r is)) (passes_at is_sending s.source n r is sends)) refl
    (names_none s) refl tt tt (index_other is_send_of a.source.sent s.source (Again n) (λ q. refl) k.source.sends) (λ e. absurd (cc))

module _ (o : List Name) (i : ℕ) (a : BooksAfter) (k : AwayKept o a) where
  owed_keeps : (p n : ℕ) (q : Option ℕ) → slice_get a.link.log i ≡ Some (Up n) → owes a.source p ≡ true → a.source.sent p ≡ q →
      Arrives o a (offered with_front (serves_owed p q (record (asks i a.source) { ring = with_pivot p a.source.ring })) a)
  owed_keeps p n None up owed e =
      let ring = with_pivot p a.source.ring in
      close_source_two o (session_after a) (Ask i) (Send p (content_of a p)) _
      (front_keeps (PagePacket (length (asked i a).source.log) p (content_of a p)) (sent p ring (asked i a)) (send_keeps p ring (asked i a) (asked_keeps i n a k up) owed e) (new_page p ring (asked i a)))
  owed_keeps p n (Some m) up owed e =
      let ring = with_pivot p a.source.ring in
      let b = asked i a in
      let kept = asked_keeps i n a k up in
      let is = sent_before p m b kept e in
      close_source_two o (session_after a) (Ask i) (Again m) _
      (front_keeps (PagePacket (length b.source.log) p (content_of a p)) (repeated m ring b) (again_keeps m ring (Send p (content_of a p)) b kept is refl)
      (record { send = m; sent = get_old b.source.log (Again m ∷ []) m _ is; is_it = inr (get_new b.source.log (Again m)) }))

  want_keeps : (p n : ℕ) → slice_get a.link.log i ≡ Some (Up n) → Arrives o a (offered with_front (serves_want p (asks i a.source)) a)
  want_keeps p n up = go (owes (asks i a.source) p) refl
    where
      go : (b : Bool) → owes (asks i a.source) p ≡ b → Arrives o a (offered with_front (cond b (serves_owed p (a.source.sent p) (record (asks i a.source) { ring = with_pivot p a.source.ring })) (silent (asks i a.source))) a)
      go true e = owed_keeps p n (a.source.sent p) up e refl
      go false e = close_source o (session_after a) (Ask i) _ (asked_keeps i n a k up)

  all_keeps : (n : ℕ) → slice_get a.link.log i ≡ Some (Up n) → slice_get a.pager.log n ≡ Some All → Arrives o a (offered with_front (serves_all (asks i a.source)) a)
  all_keeps n up is = go a.source.is_done
    where
      go : (b : Bool) → Arrives o a (offered with_front (cond b (silent (asks i a.source)) (record { book = record (asks i a.source) { log = (asks i a.source).log ++ Done ∷ []; is_done = true }; packet = None })) a)
      go true = close_source o (session_after a) (Ask i) _ (asked_keeps i n a k up)
      go false =
          let b = asked i a in
          let kept = asked_keeps i n a k up in
          close_source_two o (session_after a) (Ask i) Done _
          (source_pushed Done b.source.sent b.source.ring b.source.was_asked true b kept refl refl (names_none (session_after b)) refl tt tt
          (index_other is_send_of b.source.sent b.source.log Done (λ q. refl) kept.source.sends) (λ e. kept.ends.all n is))

  packet_keeps : (packet : Packet) → UpArrived (session_after a) (record { number = i; packet = packet }) → Arrives o a (offered with_front (source_serve i packet a.source) a)
  packet_keeps (StatePacket n rel) fact = close_none o (session_after a) a k
  packet_keeps (PagePacket n p content) fact = close_none o (session_after a) a k
  packet_keeps (WantPacket n p) fact = want_keeps p n fact.0
  packet_keeps (AllPacket n) fact = all_keeps n fact.0 fact.1

pub served_keeps : (o : List Name) (xs : List Arrival) (a : BooksAfter) → AwayKept o a → a.link.up_arrivals ≡ xs → Arrives o a (served xs a)
served_keeps o [] a k e = close_none o (session_after a) a k
served_keeps o (x ∷ rest) a k e =
    let facts : AllByRecursion (UpArrived (session_after a)) (x ∷ rest) = subst (λ ys. AllByRecursion (UpArrived (session_after a)) ys) e k.link.up.come in
    packet_keeps o x.number (record a { link = record a.link { up_arrivals = rest } })
    (with_link (record a.link { up_arrivals = rest }) a k (record { down = k.link.down; up = record { under_way = k.link.up.under_way; come = facts.1 }; lane = k.link.lane }))
    x.packet facts.0

-- SourceTick
pub ticked_keeps : (o : List Name) (a : BooksAfter) → AwayKept o a → Arrives o a (offered with_back (source_tick a.source) a)
ticked_keeps o a k = go a.source.was_asked
  where
    go : (b : Bool) → Arrives o a (offered with_back (cond b (silent a.source) (record { book = record a.source { log = a.source.log ++ Again 1 ∷ [] }; packet = Some (state_packet (length a.source.log) a.source) })) a)
    go true = close_none o (session_after a) a k
    go false =
        close_source o (session_after a) (Again 1) _
        (back_keeps (state_packet (length a.source.log) a.source) (repeated 1 a.source.ring a)
        (again_keeps 1 a.source.ring State a k k.source.state refl)
        (refl, inr (1, get_new a.source.log (Again 1), get_old a.source.log (Again 1 ∷ []) 1 State k.source.state)))
