-- The pager's calls on the target's book.
use Rattle.std.proofs.Common.{◌≡◌, ℕ, ◌+◌, ◌<◌, ◌≤◌, Bool, true, false, cond, ◌||◌, List, [], ◌∷◌, ◌++◌, length, Option, Some, ◌⊎◌, inl, inr, refl, sym, ap, ◌∙◌, subst, arith}
use Rattle.std.specs.Prelude.{is_some, ◌==◌}
use Rattle.std.specs.List.{AllByRecursion}
use Rattle.std.proofs.lemmas.Bool.{eqb-true, eq-eqb, or_cases}
use Rattle.migration_types.specs.declared.records.PagerRec.{PagerRec}
use Rattle.migration_types.specs.declared.records.PagerRec.TheVariants.{Fault, Join, Want, Place, Zero, Skip}
use Rattle.migration_types.specs.Extents.{Extent}
use Rattle.migration_types.specs.Limits.{most_records}
use Rattle.migration_types.specs.PageSets.{Pages, with_page}
use Rattle.page_store.specs.Tables.{Values, pages_of, values, with_value}
use Rattle.fault_queue.specs.Waiting.{Waiting, is_asked, waiting_for, joined, entry, without}
use Rattle.fault_queue.specs.declared.Asked.{Asked}
use Rattle.fault_queue.specs.declared.Asked.TheVariants.{New, Joined}
use Rattle.page_stream.specs.declared.Packet.{Packet}
use Rattle.page_stream.specs.declared.Packet.TheVariants.{Want as WantPacket}
use Rattle.target_side.specs.TargetPart.{TargetPart, with_placed, with_zeroed}
use Rattle.target_side.specs.declared.incoming.Incoming.{Incoming}
use Rattle.target_side.specs.PagerPart.{PagerPart, wants_page, fault_new, fault_join, zeroes, places, is_released}
use Rattle.target_side.specs.PagerLists.{PagerLists, part_of, IsWanted, IsKept}
use Rattle.target_side.specs.inner.Sound.{IsSound}
use Rattle.target_side.specs.inner.Steps.{learned, asks, places_next}
use Rattle.target_side.proofs.Lists.{length_more, get_new}
use Rattle.target_side.proofs.PagerKeeping.{with_record, kept_more, kept_placed, kept_taken, kept_served, kept_joined, kept_wanting, kept_sending, kept_asked}

pub two_more : (log : List PagerRec) (r s : PagerRec) → length ((log ++ r ∷ []) ++ s ∷ []) ≡ length log + 2
two_more log r s = omega (arith, length_more log r, length_more (log ++ r ∷ []) s)

-- the oldest page that has come is dropped
pub kept_skipped : (b : PagerPart) (x : Incoming) (inbox : List Incoming) (log : List PagerRec) → is_some b.released ≡ true → b.inbox ≡ x ∷ inbox → log ≡ b.log ++ Skip x.got ∷ [] → length b.log + 1 ≤ most_records → IsKept b → IsKept (record b { log = log; inbox = inbox })
kept_skipped b x inbox log is e grown few k =
    rw grown (kept_more (Skip x.got) (record b { inbox = inbox }) is (λ p. refl) (omega (arith, length_more b.log (Skip x.got))) (kept_taken x inbox b e k).1)

-- a page is placed
still : (c a r s : Bool) → (r || (a || s)) ≡ true → (r || (cond c true a || s)) ≡ true
still true a true s e = refl
still true a false s e = refl
still false a r s e = e

pub sound_placed : {b : PagerLists} {marks : Values Bool} {bound : ℕ} (page : ℕ) (log : List PagerRec) (placed : Values Bool) (inbox : List Incoming) (waiting : List Waiting) → IsSound b marks bound → pages_of placed ≡ pages_of b.placed → values placed ≡ with_page page (values b.placed) → IsKept (part_of (record b { log = log; placed = placed; inbox = inbox; waiting = waiting })) → IsSound (record b { log = log; placed = placed; inbox = inbox; waiting = waiting }) marks bound
sound_placed {b} {marks} {bound} page log placed inbox waiting s pages are k = record {
  kept = k;
  placed_pages = pages ∙ s.placed_pages;
  settled_pages = s.settled_pages;
  wants_pages = s.wants_pages;
  marked_pages = s.marked_pages;
  marked = s.marked;
  in_range = s.in_range;
  passed = λ p lt. ap (λ (at : ℕ → Bool). is_released b.released p || (at p || values b.settled p)) are ∙ still (page == p) (values b.placed p) (is_released b.released p) (values b.settled p) (s.passed p lt);
}

pub kept_zeroed : (b : PagerPart) (page miss : ℕ) (log : List PagerRec) (placed : Pages) → is_some b.released ≡ true → log ≡ (b.log ++ Fault miss ∷ []) ++ Zero page ∷ [] → placed ≡ with_page page b.placed → length b.log + 2 ≤ most_records → IsKept b → IsKept (record b { log = log; placed = placed })
kept_zeroed b page miss log placed is grown are few k =
    let e : record b { log = log; placed = placed } ≡ record b { log = (b.log ++ Fault miss ∷ []) ++ Zero page ∷ []; placed = with_page page b.placed } = λ i. record b { log = grown i; placed = are i } in
    let k1 : IsKept (with_record (Fault miss) b) = kept_more (Fault miss) b is (λ p. refl) (omega (arith, length_more b.log (Fault miss))) k in
    subst IsKept (sym e) (kept_placed page (Zero page) (with_record (Fault miss) b) is (λ p. refl) (λ p. refl) (omega (arith, two_more b.log (Fault miss) (Zero page))) k1)

pub zeroed_part : (b : PagerPart) (t after : TargetPart) (page miss number : ℕ) (log : List PagerRec) (placed : Pages) → log ≡ (b.log ++ Fault miss ∷ []) ++ Zero page ∷ [] → placed ≡ with_page page b.placed → after ≡ with_zeroed page number t → number ≡ length b.log + 1 → record { pager = record b { log = log; placed = placed }; target = after; woken = [] } ≡ zeroes page (learned miss b) t
zeroed_part b t after page miss number log placed grown are is at =
    let at_end : number ≡ length (b.log ++ Fault miss ∷ []) = omega (arith, at, length_more b.log (Fault miss)) in
    let given : after ≡ with_zeroed page (length (b.log ++ Fault miss ∷ [])) t = is ∙ ap (λ n. with_zeroed page n t) at_end in
    λ i. record { pager = record b { log = grown i; placed = are i }; target = given i; woken = [] }

pub kept_delivered : (b : PagerPart) (x : Incoming) (inbox : List Incoming) (log : List PagerRec) (placed : Pages) (waiting : List Waiting) → is_some b.released ≡ true → b.inbox ≡ x ∷ inbox → log ≡ b.log ++ Place x.page x.got x.contents ∷ [] → placed ≡ with_page x.page b.placed → waiting ≡ without x.page b.waiting → length b.log + 1 ≤ most_records → IsKept b → IsKept (record b { log = log; placed = placed; inbox = inbox; waiting = waiting })
kept_delivered b x inbox log placed waiting is taken grown are left few k =
    let r : PagerRec = Place x.page x.got x.contents in
    let k1 : IsKept (record b { log = b.log ++ r ∷ []; placed = with_page x.page b.placed; inbox = inbox }) =
    kept_placed x.page r (record b { inbox = inbox }) is (λ p. refl) (λ p. refl) (omega (arith, length_more b.log r)) (kept_taken x inbox b taken k).1
    in
    let e : record b { log = log; placed = placed; inbox = inbox; waiting = waiting } ≡ record b { log = b.log ++ r ∷ []; placed = with_page x.page b.placed; inbox = inbox; waiting = without x.page b.waiting } =
    λ i. record b { log = grown i; placed = are i; inbox = inbox; waiting = left i }
    in subst IsKept (sym e) (kept_served x.page (record b { log = b.log ++ r ∷ []; placed = with_page x.page b.placed; inbox = inbox }) k1)

pub delivered_part : (b : PagerPart) (t after : TargetPart) (x : Incoming) (inbox : List Incoming) (number : ℕ) (log : List PagerRec) (placed : Pages) (waiting : List Waiting) (woken : List ℕ) → b.inbox ≡ x ∷ inbox → log ≡ b.log ++ Place x.page x.got x.contents ∷ [] → placed ≡ with_page x.page b.placed → waiting ≡ without x.page b.waiting → woken ≡ waiting_for x.page b.waiting → after ≡ with_placed x.page number x.contents t → number ≡ length b.log → record { pager = record b { log = log; placed = placed; inbox = inbox; waiting = waiting }; target = after; woken = woken } ≡ places_next b.inbox b t
delivered_part b t after x inbox number log placed waiting woken taken grown are left woke is at =
    let given : after ≡ with_placed x.page (length b.log) x.contents t = is ∙ ap (λ n. with_placed x.page n x.contents t) at in
    let e : record { pager = record b { log = log; placed = placed; inbox = inbox; waiting = waiting }; target = after; woken = woken } ≡ places x (record b { inbox = inbox }) t =
    λ i. record { pager = record b { log = grown i; placed = are i; inbox = inbox; waiting = left i }; target = given i; woken = woke i }
    in e ∙ sym (ap (λ xs. places_next xs b t) taken)

-- who waits for a page waits for one that was wanted
pub asked_wanted : (e : Extent) (wants : ℕ → Option ℕ) (xs : List Waiting) (page : ℕ) → AllByRecursion (IsWanted e wants) xs → is_asked page xs ≡ true → (n : ℕ) × (wants page ≡ Some n)
asked_wanted e wants [] page all is = absurd (cc)
asked_wanted e wants (x ∷ xs) page all is = go (asked_wanted e wants xs page all.1) (or_cases (page == x.page) (is_asked page xs) is)
  where
    go : (is_asked page xs ≡ true → (n : ℕ) × (wants page ≡ Some n)) → ((page == x.page) ≡ true) ⊎ (is_asked page xs ≡ true) → (n : ℕ) × (wants page ≡ Some n)
    go rest (inl here) = subst (λ p. (n : ℕ) × (wants p ≡ Some n)) (sym (eqb-true page x.page here)) all.0.1
    go rest (inr there) = rest there

-- a page is asked for, or one more waits for it
pub asks_new : (b : PagerPart) (p v : ℕ) → is_asked p b.waiting ≡ false → asks p v b ≡ fault_new p v b
asks_new b p v is = ap (λ c. cond c (fault_join p v (b.wants p) b) (fault_new p v b)) is

pub asks_join : (b : PagerPart) (p v want : ℕ) → is_asked p b.waiting ≡ true → b.wants p ≡ Some want → asks p v b ≡ record b { log = b.log ++ Join want ∷ []; waiting = joined p v b.waiting }
asks_join b p v want is wanted = ap (λ c. cond c (fault_join p v (b.wants p) b) (fault_new p v b)) is ∙ ap (λ o. fault_join p v o b) wanted

pub asks_length : (b : PagerPart) (miss p v : ℕ) → IsKept b → length (asks p v (learned miss b)).log ≡ length b.log + 2
asks_length b miss p v k = go (is_asked p b.waiting) refl
  where
    go : (c : Bool) → is_asked p b.waiting ≡ c → length (asks p v (learned miss b)).log ≡ length b.log + 2
    go true is =
        let w = asked_wanted b.geometry b.wants b.waiting p k.tied.waiting is in
        ap (λ (a : PagerPart). length a.log) (asks_join (learned miss b) p v w.0 is w.1) ∙ two_more b.log (Fault miss) (Join w.0)
    go false is = ap (λ (a : PagerPart). length a.log) (asks_new (learned miss b) p v is) ∙ two_more b.log (Fault miss) (Want p)

pub kept_more_waiting : (b : PagerPart) (miss p v want : ℕ) (log : List PagerRec) (waiting : List Waiting) → is_some b.released ≡ true → log ≡ (b.log ++ Fault miss ∷ []) ++ Join want ∷ [] → waiting ≡ joined p v b.waiting → length b.log + 2 ≤ most_records → IsKept b → IsKept (record b { log = log; waiting = waiting })
kept_more_waiting b miss p v want log waiting is grown more few k =
    let k1 : IsKept (with_record (Fault miss) b) = kept_more (Fault miss) b is (λ q. refl) (omega (arith, length_more b.log (Fault miss))) k in
    let k2 : IsKept (with_record (Join want) (with_record (Fault miss) b)) = kept_more (Join want) (with_record (Fault miss) b) is (λ q. refl) (omega (arith, two_more b.log (Fault miss) (Join want))) k1 in
    let e : record b { log = log; waiting = waiting } ≡ record b { log = (b.log ++ Fault miss ∷ []) ++ Join want ∷ []; waiting = joined p v b.waiting } = λ i. record b { log = grown i; waiting = more i } in
    subst IsKept (sym e) (kept_joined p v (with_record (Join want) (with_record (Fault miss) b)) k2)

pub asked_part : (b : PagerPart) (miss p v number : ℕ) (log : List PagerRec) (outbox : List Packet) (waiting : List Waiting) (wants : ℕ → Option ℕ) → log ≡ (b.log ++ Fault miss ∷ []) ++ Want p ∷ [] → outbox ≡ b.outbox ++ WantPacket number p ∷ [] → waiting ≡ b.waiting ++ entry p v ∷ [] → wants ≡ with_value p (Some number) b.wants → number ≡ length (b.log ++ Fault miss ∷ []) → record b { log = log; outbox = outbox; waiting = waiting; wants = wants } ≡ fault_new p v (learned miss b)
asked_part b miss p v number log outbox waiting wants grown sent more given at =
    let sent_at : outbox ≡ b.outbox ++ WantPacket (length (b.log ++ Fault miss ∷ [])) p ∷ [] = sent ∙ ap (λ n. b.outbox ++ WantPacket n p ∷ []) at in
    let given_at : wants ≡ with_value p (Some (length (b.log ++ Fault miss ∷ []))) b.wants = given ∙ ap (λ n. with_value p (Some n) b.wants) at in
    λ i. record b { log = grown i; outbox = sent_at i; waiting = more i; wants = given_at i }

pub kept_new : (b : PagerPart) (miss p v : ℕ) → is_some b.released ≡ true → p < b.geometry.pages → length b.log + 2 ≤ most_records → IsKept b → IsKept (fault_new p v (learned miss b))
kept_new b miss p v is fits few k =
    let a : PagerPart = learned miss b in
    let k1 : IsKept a = kept_more (Fault miss) b is (λ q. refl) (omega (arith, length_more b.log (Fault miss))) k in
    let k2 : IsKept (wants_page p a) = kept_wanting p a is fits (omega (arith, two_more b.log (Fault miss) (Want p))) k1 in
    let k3 : IsKept (record (wants_page p a) { outbox = a.outbox ++ WantPacket (length a.log) p ∷ [] }) = kept_sending (length a.log) p (wants_page p a) fits (get_new a.log (Want p)) k2 in
    kept_asked p v (length a.log) (record (wants_page p a) { outbox = a.outbox ++ WantPacket (length a.log) p ∷ [] }) fits (own p (Some (length a.log)) a.wants) k3
  where
    own : (q : ℕ) (o : Option ℕ) (wants : ℕ → Option ℕ) → with_value q o wants q ≡ o
    own q o wants = ap (λ c. cond c o (wants q)) (eq-eqb q q refl)

-- what the queue told
pub told_joined : (b : Bool) (x : Asked) → x ≡ cond b Joined New → x ≡ Joined → b ≡ true
told_joined true x e is = refl
told_joined false x e is = absurd (cc)

pub told_new : (b : Bool) (x : Asked) → x ≡ cond b Joined New → x ≡ New → b ≡ false
told_new true x e is = absurd (cc)
told_new false x e is = refl

pub asked_joined : (b : Bool) (page v : ℕ) (xs after : List Waiting) → after ≡ cond b (joined page v xs) (xs ++ entry page v ∷ []) → b ≡ true → after ≡ joined page v xs
asked_joined true page v xs after e is = e
asked_joined false page v xs after e is = absurd (cc)

pub asked_new : (b : Bool) (page v : ℕ) (xs after : List Waiting) → after ≡ cond b (joined page v xs) (xs ++ entry page v ∷ []) → b ≡ false → after ≡ xs ++ entry page v ∷ []
asked_new true page v xs after e is = absurd (cc)
asked_new false page v xs after e is = e
