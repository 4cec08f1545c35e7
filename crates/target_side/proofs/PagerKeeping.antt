-- What the pager's book keeps, through each part of an event.
use Rattle.std.proofs.Common.{◌≡◌, ℕ, ◌<◌, ◌≤◌, ◌⊎◌, inl, inr, Bool, true, false, cond, ◌||◌, List, [], ◌∷◌, ◌++◌, length, Option, Some, None, refl, sym, ap, ◌∙◌, subst, arith}
use Rattle.std.proofs.lemmas.Bool.{eqb-true, eq-eqb, both_ways}
use Rattle.std.proofs.lemmas.Option.{slice_get_within}
use Rattle.std.proofs.lemmas.List.Folds.{list_any-append}
use Rattle.std.specs.Prelude.{is_some, slice_get, ◌==◌}
use Rattle.std.specs.List.{AllByRecursion, list_any}
use Rattle.migration_types.specs.declared.records.PagerRec.{PagerRec}
use Rattle.migration_types.specs.declared.records.PagerRec.TheVariants.{Got, Ready, Want, All}
use Rattle.migration_types.specs.Extents.{Extent}
use Rattle.migration_types.specs.Limits.{most_records}
use Rattle.migration_types.specs.PageSets.{with_page}
use Rattle.audit_model.specs.Shape.{is_placement_of, is_taking}
use Rattle.page_store.specs.Tables.{with_value}
use Rattle.fault_queue.specs.Waiting.{Waiting, entry, joined, with_waiter, without}
use Rattle.page_stream.specs.declared.Packet.{Packet}
use Rattle.page_stream.specs.declared.Packet.TheVariants.{State as StatePacket, Page as PagePacket, Want as WantPacket, All as AllPacket}
use Rattle.target_side.specs.declared.incoming.Incoming.{Incoming}
use Rattle.target_side.specs.PagerPart.{PagerPart, wants_page, oldest}
use Rattle.target_side.specs.PagerLists.{HasBegun, HasCome, IsSaid, IsWanted, IsTied, AreLast, IsKept}
use Rattle.target_side.proofs.Lists.{get_old, get_new, get_push, passes_old, each_push, each_weaker, each_filtered, each_mapped}

-- a record more in the log
abbrev pub with_record : PagerRec → PagerPart → PagerPart
with_record r b = record b { log = b.log ++ r ∷ [] }

come_more : (e : Extent) (log : List PagerRec) (r : PagerRec) (x : Incoming) → HasCome e log x → HasCome e (log ++ r ∷ []) x
come_more e log r x h = record { page = h.page; cells = h.cells; got = passes_old is_taking log r x.got h.got }

said_more : (e : Extent) (log : List PagerRec) (r : PagerRec) (p : Packet) → IsSaid e log p → IsSaid e (log ++ r ∷ []) p
said_more e log r (StatePacket n released) h = h
said_more e log r (PagePacket n p content) h = h
said_more e log r (WantPacket n p) h = (h.0, get_old log r n (Want p) h.1)
said_more e log r (AllPacket n) h = get_old log r n All h

-- a record that places nothing
pub tied_more : (r : PagerRec) (b : PagerPart) → ((p : ℕ) → is_placement_of p r ≡ false) → IsTied b → IsTied (with_record r b)
tied_more r b other t = record {
  inbox = each_weaker (HasCome b.geometry b.log) (HasCome b.geometry (b.log ++ r ∷ [])) (come_more b.geometry b.log r) b.inbox t.inbox;
  outbox = each_weaker (IsSaid b.geometry b.log) (IsSaid b.geometry (b.log ++ r ∷ [])) (said_more b.geometry b.log r) b.outbox t.outbox;
  wants = λ p n e. let h = t.wants p n e in (h.0, get_old b.log r n (Want p) h.1);
  waiting = t.waiting;
  placed = λ p. t.placed p ∙ sym (list_any-append (is_placement_of p) b.log (r ∷ []) ∙ ap (λ c. list_any (is_placement_of p) b.log || (c || false)) (other p) ∙ or_none (list_any (is_placement_of p) b.log));
}
  where
    or_none : (a : Bool) → (a || (false || false)) ≡ a
    or_none true = refl
    or_none false = refl

-- a record that places a page
pub tied_placed : (page : ℕ) (r : PagerRec) (b : PagerPart) → ((p : ℕ) → is_placement_of p r ≡ (page == p)) → IsTied b → IsTied (record b { log = b.log ++ r ∷ []; placed = with_page page b.placed })
tied_placed page r b places t = record {
  inbox = each_weaker (HasCome b.geometry b.log) (HasCome b.geometry (b.log ++ r ∷ [])) (come_more b.geometry b.log r) b.inbox t.inbox;
  outbox = each_weaker (IsSaid b.geometry b.log) (IsSaid b.geometry (b.log ++ r ∷ [])) (said_more b.geometry b.log r) b.outbox t.outbox;
  wants = λ p n e. let h = t.wants p n e in (h.0, get_old b.log r n (Want p) h.1);
  waiting = t.waiting;
  placed = λ p. either (page == p) (b.placed p) ∙ ap (λ c. c || ((page == p) || false)) (t.placed p) ∙ ap (λ c. list_any (is_placement_of p) b.log || (c || false)) (sym (places p)) ∙ sym (list_any-append (is_placement_of p) b.log (r ∷ []));
}
  where
    either : (c a : Bool) → cond c true a ≡ (a || (c || false))
    either true true = refl
    either true false = refl
    either false true = refl
    either false false = refl

begun_more : (released : Option (List ℕ)) (log : List PagerRec) (r : PagerRec) → is_some released ≡ true → HasBegun released log → HasBegun released (log ++ r ∷ [])
begun_more None log r is h = absurd (cc)
begun_more (Some xs) log r is h = ((h.0.0, get_old log r 0 (Got h.0.0) h.0.1), get_old log r 1 Ready h.1)

-- a record that is of a page: that places it, or wants it
abbrev pub is_want_of : ℕ → PagerRec → Bool
is_want_of page (Want p) = p == page
is_want_of page _ = false

abbrev pub is_of : ℕ → PagerRec → Bool
is_of page r = is_placement_of page r || is_want_of page r

neither : (a c : Bool) → (a || c) ≡ false → (a ≡ false) × (c ≡ false)
neither true c e = absurd (cc)
neither false c e = (refl, e)

-- a record that wants nothing
last_more : (r : PagerRec) (log : List PagerRec) (wants : ℕ → Option ℕ) → ((p : ℕ) → is_want_of p r ≡ false) → AreLast log wants → AreLast (log ++ r ∷ []) wants
last_more r log wants other last p m e = go (get_push log r m (Want p) e)
  where
    go : (slice_get log m ≡ Some (Want p)) ⊎ ((m ≡ length log) × (r ≡ Want p)) → (n : ℕ) × ((wants p ≡ Some n) × (m ≤ n))
    go (inl old) = last p m old
    go (inr new) = absurd (both_ways (is_want_of p r) (other p) (ap (is_want_of p) new.1 ∙ eq-eqb p p refl))

-- a record that wants a page
last_wanting : (page : ℕ) (log : List PagerRec) (wants : ℕ → Option ℕ) → AreLast log wants → AreLast (log ++ Want page ∷ []) (with_value page (Some (length log)) wants)
last_wanting page log wants last p m e = go (get_push log (Want page) m (Want p) e)
  where
    Told : Bool → Type 0
    Told c = (n : ℕ) × ((cond c (Some (length log)) (wants p) ≡ Some n) × (m ≤ n))

    old : (c : Bool) → slice_get log m ≡ Some (Want p) → Told c
    old true there = let within = slice_get_within log m (Want p) there in (length log, (refl, omega (arith, within)))
    old false there = last p m there

    new : (c : Bool) → (page == p) ≡ c → m ≡ length log → page ≡ p → Told c
    new true is at same = (length log, (refl, omega (arith, at)))
    new false is at same = absurd (both_ways (page == p) is (eq-eqb page p same))

    go : (slice_get log m ≡ Some (Want p)) ⊎ ((m ≡ length log) × (Want page ≡ Want p)) → Told (page == p)
    go (inl there) = old (page == p) there
    go (inr here) = new (page == p) refl here.0 (let e = here.1 in cc)

-- a record more, once the state has come
pub kept_more : (r : PagerRec) (b : PagerPart) → is_some b.released ≡ true → ((p : ℕ) → is_of p r ≡ false) → length (b.log ++ r ∷ []) ≤ most_records → IsKept b → IsKept (with_record r b)
kept_more r b is other few k = record { few = few; begun = begun_more b.released b.log r is k.begun; tied = tied_more r b (λ p. (neither (is_placement_of p r) (is_want_of p r) (other p)).0) k.tied; last = last_more r b.log b.wants (λ p. (neither (is_placement_of p r) (is_want_of p r) (other p)).1) k.last }

pub kept_placed : (page : ℕ) (r : PagerRec) (b : PagerPart) → is_some b.released ≡ true → ((p : ℕ) → is_placement_of p r ≡ (page == p)) → ((p : ℕ) → is_want_of p r ≡ false) → length (b.log ++ r ∷ []) ≤ most_records → IsKept b → IsKept (record b { log = b.log ++ r ∷ []; placed = with_page page b.placed })
kept_placed page r b is places other few k = record { few = few; begun = begun_more b.released b.log r is k.begun; tied = tied_placed page r b places k.tied; last = last_more r b.log b.wants other k.last }

-- the state comes first
unbegun : (released : Option (List ℕ)) (log : List PagerRec) → is_some released ≡ false → HasBegun released log → log ≡ []
unbegun None log is h = h
unbegun (Some xs) log is h = absurd (cc)

pub kept_first : (down : ℕ) (list : List ℕ) (b : PagerPart) → is_some b.released ≡ false → IsKept b → IsKept (record b { log = (b.log ++ Got down ∷ []) ++ Ready ∷ []; released = Some list })
kept_first down list b is k =
    let t : IsTied (with_record Ready (with_record (Got down) b)) = tied_more Ready (with_record (Got down) b) (λ p. refl) (tied_more (Got down) b (λ p. refl) k.tied) in
    let none : b.log ≡ [] = unbegun b.released b.log is k.begun in
    record {
      few = subst (λ (xs : List PagerRec). length ((xs ++ Got down ∷ []) ++ Ready ∷ []) ≤ most_records) (sym none) (omega arith);
      begun = subst (λ (xs : List PagerRec). HasBegun (Some list) ((xs ++ Got down ∷ []) ++ Ready ∷ [])) (sym none) ((down, refl), refl);
      tied = record { inbox = t.inbox; outbox = t.outbox; wants = t.wants; waiting = t.waiting; placed = t.placed };
      last = last_more Ready (b.log ++ Got down ∷ []) b.wants (λ p. refl) (last_more (Got down) b.log b.wants (λ p. refl) k.last);
    }

-- a page comes
pub kept_incoming : (x : Incoming) (b : PagerPart) → HasCome b.geometry b.log x → IsKept b → IsKept (record b { inbox = b.inbox ++ x ∷ [] })
kept_incoming x b here k = record {
  few = k.few;
  begun = k.begun;
  last = k.last;
  tied = record { inbox = each_push (HasCome b.geometry b.log) b.inbox x k.tied.inbox here; outbox = k.tied.outbox; wants = k.tied.wants; waiting = k.tied.waiting; placed = k.tied.placed };
}

-- a page is taken out of the inbox
pub kept_taken : (x : Incoming) (rest : List Incoming) (b : PagerPart) → b.inbox ≡ x ∷ rest → IsKept b → HasCome b.geometry b.log x × IsKept (record b { inbox = rest })
kept_taken x rest b is k =
    let all : AllByRecursion (HasCome b.geometry b.log) (x ∷ rest) = subst (AllByRecursion (HasCome b.geometry b.log)) is k.tied.inbox in (
      all.0,
      record {
        few = k.few;
        begun = k.begun;
        last = k.last;
        tied = record { inbox = all.1; outbox = k.tied.outbox; wants = k.tied.wants; waiting = k.tied.waiting; placed = k.tied.placed };
      },
    )

-- a page is wanted, by the next record
wanted_still : (e : Extent) (page n : ℕ) (wants : ℕ → Option ℕ) (x : Waiting) → IsWanted e wants x → IsWanted e (with_value page (Some n) wants) x
wanted_still e page n wants x h = (h.0, go (page == x.page))
  where
    go : (c : Bool) → (m : ℕ) × (cond c (Some n) (wants x.page) ≡ Some m)
    go true = (n, refl)
    go false = h.1

pub kept_wanting : (page : ℕ) (b : PagerPart) → is_some b.released ≡ true → page < b.geometry.pages → length (b.log ++ Want page ∷ []) ≤ most_records → IsKept b → IsKept (wants_page page b)
kept_wanting page b is fits few k =
    let t : IsTied (with_record (Want page) b) = tied_more (Want page) b (λ p. refl) k.tied in
    record {
      few = few;
      begun = begun_more b.released b.log (Want page) is k.begun;
      last = last_wanting page b.log b.wants k.last;
      tied = record {
        inbox = t.inbox;
        outbox = t.outbox;
        wants = λ p n e. wants p n (page == p) refl e;
        waiting = each_weaker (IsWanted b.geometry b.wants) (IsWanted b.geometry (with_value page (Some (length b.log)) b.wants)) (wanted_still b.geometry page (length b.log) b.wants) b.waiting t.waiting;
        placed = t.placed;
      };
    }
  where
    here : (p n : ℕ) → page ≡ p → length b.log ≡ n → (p < b.geometry.pages) × (slice_get (b.log ++ Want page ∷ []) n ≡ Some (Want p))
    here p n same at =
        (subst (λ q. q < b.geometry.pages) same fits, subst (λ m. slice_get (b.log ++ Want page ∷ []) m ≡ Some (Want p)) at (get_new b.log (Want page) ∙ ap (λ q. Some (Want q)) same))

    wants : (p n : ℕ) (c : Bool) → (page == p) ≡ c → cond c (Some (length b.log)) (b.wants p) ≡ Some n → (p < b.geometry.pages) × (slice_get (b.log ++ Want page ∷ []) n ≡ Some (Want p))
    wants p n true same e = here p n (eqb-true page p same) (let e = e in cc)
    wants p n false same e = let h = k.tied.wants p n e in (h.0, get_old b.log (Want page) n (Want p) h.1)

-- its packet goes into the outbox
pub kept_sending : (n page : ℕ) (b : PagerPart) → page < b.geometry.pages → slice_get b.log n ≡ Some (Want page) → IsKept b → IsKept (record b { outbox = b.outbox ++ WantPacket n page ∷ [] })
kept_sending n page b fits is k = record {
  few = k.few;
  begun = k.begun;
  last = k.last;
  tied = record { inbox = k.tied.inbox; outbox = each_push (IsSaid b.geometry b.log) b.outbox (WantPacket n page) k.tied.outbox (fits, is); wants = k.tied.wants; waiting = k.tied.waiting; placed = k.tied.placed };
}

-- other virtual processors wait
pub kept_waiting : (waiting : List Waiting) (b : PagerPart) → AllByRecursion (IsWanted b.geometry b.wants) waiting → IsKept b → IsKept (record b { waiting = waiting })
kept_waiting waiting b all k = record {
  few = k.few;
  begun = k.begun;
  last = k.last;
  tied = record { inbox = k.tied.inbox; outbox = k.tied.outbox; wants = k.tied.wants; waiting = all; placed = k.tied.placed };
}

pub kept_served : (page : ℕ) (b : PagerPart) → IsKept b → IsKept (record b { waiting = without page b.waiting })
kept_served page b k = kept_waiting (without page b.waiting) b (each_filtered (IsWanted b.geometry b.wants) _ b.waiting k.tied.waiting) k

pub kept_joined : (page v : ℕ) (b : PagerPart) → IsKept b → IsKept (record b { waiting = joined page v b.waiting })
kept_joined page v b k = kept_waiting (joined page v b.waiting) b (each_mapped (IsWanted b.geometry b.wants) _ still b.waiting k.tied.waiting) k
  where
    still : (x : Waiting) → IsWanted b.geometry b.wants x → IsWanted b.geometry b.wants (cond (page == x.page) (with_waiter v x) x)
    still x h = go (page == x.page)
      where
        go : (c : Bool) → IsWanted b.geometry b.wants (cond c (with_waiter v x) x)
        go true = h
        go false = h

pub kept_asked : (page v n : ℕ) (b : PagerPart) → page < b.geometry.pages → b.wants page ≡ Some n → IsKept b → IsKept (record b { waiting = b.waiting ++ entry page v ∷ [] })
kept_asked page v n b fits is k = kept_waiting (b.waiting ++ entry page v ∷ []) b (each_push (IsWanted b.geometry b.wants) b.waiting (entry page v) k.tied.waiting (fits, (n, is))) k

-- the page that is waited for longest is one of the machine
pub oldest_fits : (e : Extent) (wants : ℕ → Option ℕ) (xs : List Waiting) (p : ℕ) → AllByRecursion (IsWanted e wants) xs → p < e.pages → oldest xs p < e.pages
oldest_fits e wants [] p all fits = fits
oldest_fits e wants (x ∷ xs) p all fits = all.0.0
