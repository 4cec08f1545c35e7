-- The fields of the pager's book, through its calls.
use Rattle.std.proofs.Common.{◌≡◌, ℕ, ◌+◌, ◌<◌, ◌≤◌, Bool, true, false, ◌||◌, List, [], ◌∷◌, ◌++◌, length, Option, Some, None, refl, sym, ap, ◌∙◌, subst, arith}
use Rattle.std.specs.Prelude.{is_some, slice_get}
use Rattle.migration_types.specs.declared.records.PagerRec.{PagerRec}
use Rattle.migration_types.specs.declared.records.PagerRec.TheVariants.{Got, Pull, Ready, Fault, Join, Want, Place, Zero, Skip, All}
use Rattle.migration_types.specs.Extents.{Extent}
use Rattle.migration_types.specs.Limits.{most_records}
use Rattle.audit_model.specs.Shape.{is_taking, passes}
use Rattle.page_store.specs.Tables.{Values, all_at, values}
use Rattle.fault_queue.specs.Waiting.{Waiting}
use Rattle.page_stream.specs.declared.Packet.{Packet}
use Rattle.target_side.specs.declared.incoming.Incoming.{Incoming}
use Rattle.target_side.specs.PagerPart.{PagerPart, new_pager, is_released, is_listed}
use Rattle.target_side.specs.PagerLists.{PagerLists, part_of, HasCome, IsKept}
use Rattle.target_side.specs.inner.Sound.{IsSound}
use Rattle.target_side.proofs.Lists.{length_more, get_new}
use Rattle.target_side.proofs.PagerKeeping.{with_record, is_of, kept_more, kept_first, kept_incoming}

-- the book before anything has come
pub new_part : (e : Extent) (log : List PagerRec) (placed settled : Values Bool) (inbox : List Incoming) (outbox : List Packet) (waiting : List Waiting) (wants : Values (Option ℕ)) → log ≡ [] → values placed ≡ all_at false → values settled ≡ all_at false → inbox ≡ [] → outbox ≡ [] → waiting ≡ [] → values wants ≡ all_at None → part_of (record { geometry = e; log = log; released = None; placed = placed; settled = settled; inbox = inbox; outbox = outbox; waiting = waiting; wants = wants }) ≡ new_pager e
new_part e log placed settled inbox outbox waiting wants l p s i o w n =
    λ j. record { geometry = e; log = l j; released = None; placed = p j; settled = s j; inbox = i j; outbox = o j; waiting = w j; wants = n j }

pub new_kept : (e : Extent) → IsKept (new_pager e)
new_kept e = record {
  few = omega arith;
  begun = refl;
  last = λ p m h. absurd (cc);
  tied = record { inbox = tt; outbox = tt; wants = λ p n h. absurd (cc); waiting = tt; placed = λ p. refl };
}

-- a change of the log and of the queues alone
pub sound_with : {b : PagerLists} {marks : Values Bool} {bound : ℕ} (log : List PagerRec) (inbox : List Incoming) (outbox : List Packet) (waiting : List Waiting) → IsSound b marks bound → IsKept (part_of (record b { log = log; inbox = inbox; outbox = outbox; waiting = waiting })) → IsSound (record b { log = log; inbox = inbox; outbox = outbox; waiting = waiting }) marks bound
sound_with log inbox outbox waiting s k = record {
  kept = k;
  placed_pages = s.placed_pages;
  settled_pages = s.settled_pages;
  wants_pages = s.wants_pages;
  marked_pages = s.marked_pages;
  marked = s.marked;
  in_range = s.in_range;
  passed = s.passed;
}

-- a record more
few_more : (log : List PagerRec) (r : PagerRec) → length log + 1 ≤ most_records → length (log ++ r ∷ []) ≤ most_records
few_more log r few = omega (arith, length_more log r)

pub kept_one : (b : PagerPart) (r : PagerRec) (log : List PagerRec) → is_some b.released ≡ true → log ≡ b.log ++ r ∷ [] → ((p : ℕ) → is_of p r ≡ false) → length b.log + 1 ≤ most_records → IsKept b → IsKept (record b { log = log })
kept_one b r log is more other few k = rw more (kept_more r b is other (few_more b.log r few) k)

-- what says that something was taken is of no page
takes_alone : (r : PagerRec) → is_taking r ≡ true → (p : ℕ) → is_of p r ≡ false
takes_alone (Got down) is p = refl
takes_alone (Pull down) is p = refl
takes_alone (Place page got content) is p = absurd (cc)
takes_alone (Zero page) is p = absurd (cc)
takes_alone Ready is p = refl
takes_alone (Fault miss) is p = refl
takes_alone (Join want) is p = refl
takes_alone (Want page) is p = absurd (cc)
takes_alone (Skip got) is p = refl
takes_alone All is p = refl

-- a page has come
pub taken_page : (b : PagerPart) (r : PagerRec) (got page : ℕ) (contents : List ℕ) (log : List PagerRec) (inbox : List Incoming) → is_some b.released ≡ true → is_taking r ≡ true → log ≡ b.log ++ r ∷ [] → got ≡ length b.log → inbox ≡ b.inbox ++ (record { got = got; page = page; contents = contents }) ∷ [] → page < b.geometry.pages → length contents ≡ b.geometry.cells → length b.log + 1 ≤ most_records → IsKept b → IsKept (record b { log = log; inbox = inbox })
taken_page b r got page contents log inbox is taking grown at more fits cells few k =
    let x : Incoming = record { got = got; page = page; contents = contents } in
    let k1 : IsKept (with_record r b) = kept_more r b is (takes_alone r taking) (few_more b.log r few) k in
    let here : HasCome b.geometry (b.log ++ r ∷ []) x = record { page = fits; cells = cells; got = subst (λ n. passes is_taking (slice_get (b.log ++ r ∷ []) n) ≡ true) (sym at) (ap (passes is_taking) (get_new b.log r) ∙ taking) } in
    let k2 : IsKept (record b { log = b.log ++ r ∷ []; inbox = b.inbox ++ x ∷ [] }) = kept_incoming x (with_record r b) here k1 in
    rw (grown, more) k2

-- the state has come once more
pub dropped_state : (b : PagerPart) (r : PagerRec) (got : ℕ) (log : List PagerRec) → is_some b.released ≡ true → is_taking r ≡ true → log ≡ (b.log ++ r ∷ []) ++ Skip got ∷ [] → length b.log + 2 ≤ most_records → IsKept b → IsKept (record b { log = log })
dropped_state b r got log is taking grown few k =
    let k1 : IsKept (with_record r b) = kept_more r b is (takes_alone r taking) (few_more b.log r (omega arith)) k in
    let k2 : IsKept (with_record (Skip got) (with_record r b)) = kept_more (Skip got) (with_record r b) is (λ p. refl) (omega (arith, length_more b.log r, length_more (b.log ++ r ∷ []) (Skip got))) k1 in
    rw grown k2

-- the state has come
pub begun_first : (b : PagerPart) (down : ℕ) (list : List ℕ) (log : List PagerRec) → is_some b.released ≡ false → log ≡ (b.log ++ Got down ∷ []) ++ Ready ∷ [] → IsKept b → IsKept (record b { log = log; released = Some list })
begun_first b down list log is grown k = rw grown (kept_first down list b is k)

-- before the state no page is marked, and what is below the bound is placed
pub unmarked : (o : Option (List ℕ)) (m : Values Bool) → is_some o ≡ false → values m ≡ is_released o → values m ≡ all_at false
unmarked None m is e = e
unmarked (Some xs) m is e = absurd (cc)

pub still_settled : (o : Option (List ℕ)) (list : List ℕ) (there : ℕ → Bool) (p : ℕ) → is_some o ≡ false → (is_released o p || there p) ≡ true → (is_listed p list || there p) ≡ true
still_settled None list there p is e = ap (λ b. is_listed p list || b) e ∙ or_true (is_listed p list)
  where
    or_true : (a : Bool) → (a || true) ≡ true
    or_true true = refl
    or_true false = refl
still_settled (Some xs) list there p is e = absurd (cc)
