-- Where the placement of a page that is touched with no look before it is delayed, the touch comes before it.
use Rattle.std.proofs.Common.{◌≡◌, ℕ, zero, suc, ◌<◌, ◌≤◌, ◌⊎◌, inl, inr, Bool, true, false, not, cond, List, [], ◌∷◌, ◌++◌, length, Option, Some, None, refl, sym, ap, ◌∙◌, subst, arith}
use Rattle.std.specs.Prelude.{Contains, slice_get, nat_lt}
use Rattle.std.specs.List.{filter}
use Rattle.std.proofs.lemmas.Bool.{cases_lt, ltb-true, lt-ltb}
use Rattle.std.proofs.lemmas.List.Elements.{Contains-append_left}
use Rattle.std.proofs.lemmas.Option.{slice_get_past, slice_get_within}
use Rattle.migration_types.specs.declared.records.LogName.TheVariants.{Guest, Source, Link, Lane, Pager}
use Rattle.migration_types.specs.declared.records.GuestRec.{GuestRec}
use Rattle.migration_types.specs.declared.records.GuestRec.TheVariants.{Read, Write, Release, Miss, Halt, Resume, See}
use Rattle.migration_types.specs.declared.records.PagerRec.{PagerRec}
use Rattle.migration_types.specs.declared.records.PagerRec.TheVariants.{Got, Pull, Ready, Fault, Join, Want, Place, Zero, Skip, All}
use Rattle.migration_types.specs.Sessions.{Recorded}
use Rattle.migration_types.specs.Receipts.{Name, guest_receipt, source_receipt, link_receipt, lane_receipt, pager_receipt}
use Rattle.audit_model.specs.Names.{log_length, receipt, receipt_in, if_there}
use Rattle.audit_model.specs.Mergings.{StandsAfter, IsMerging, Cursors, at_start}
use Rattle.audit_model.specs.Flat.{AtTarget, home}
use Rattle.audit_model.specs.World.{world_after, Demand}
use Rattle.audit_model.specs.declared.reasons.ShapeReason.TheVariants.{Named, Start}
use Rattle.audit_model.specs.Shape.{IsRightShape, is_placement_of, earlier, keeps, passes, is_ready, pager_start, guest_named}
use Rattle.audit_model.specs.Certificates.{is_touch_of}
use Rattle.audit_model.specs.Faults.{looks_at, has_looked, IsEarly}
use Rattle.audit_model.specs.Delayed.{IsDelayed, itself, later, receives, is_below, IsDelayedOrder, IsFirstPlacement}
use Rattle.audit_model.specs.Walks.{cursors_from, Walks}
use Rattle.audit_model.proofs.Cuts.{contains_cons, contains_nil, merging_walks, taken_before}
use Rattle.audit_model.proofs.History.{earlier_true, earlier_witness}
use Rattle.audit_model.specs.Worlds.{IsConsistentCut}
use Rattle.audit_model.proofs.Orders.{is_at}
use Rattle.audit_model.proofs.Touched.{touched_true}
use Rattle.audit_model.proofs.Walked.{contains_place, passed, walk_at}
use Rattle.audit_model.proofs.Rearranged.{rearranged_merges, append_stands, filter_stands, contains_filter}
use Rattle.audit_model.proofs.Clean.{early_breaks, false_if_not_true}

-- each record stands somewhere in a merging
stands_if_contained : (order : List Name) (name : Name) → Contains order name → (past : List Name) × StandsAfter order past name
stands_if_contained [] name h = contains_nil name h
stands_if_contained (x ∷ order) name h = go (λ h. stands_if_contained order name h) (contains_cons x name order h)
  where
    go : (Contains order name → (past : List Name) × StandsAfter order past name) → (x ≡ name) ⊎ Contains order name → (past : List Name) × StandsAfter (x ∷ order) past name
    go rec (inl same) = ([], (order, ap (λ y. y ∷ order) same))
    go rec (inr h) = let r = rec h in (x ∷ r.0, (r.1.0, ap (λ xs. x ∷ xs) r.1.1))

pub stands_somewhere : (s : Recorded) (order : List Name) → IsMerging s order → (name : Name) → name.1 < log_length s name.0 → (past : List Name) × StandsAfter order past name
stands_somewhere s order merging name lt = stands_if_contained order name (contains_place order name.0 name.1 0 (log_length s name.0) (merging.each_once_in_order name.0) (omega arith) (omega arith))

-- a record that names another is there
receipt_in_there : {X : Type 0} (receipt_of : X → Option Name) (log : List X) (n : ℕ) (sent : Name) → receipt_in receipt_of log n ≡ Some sent → n < length log
receipt_in_there {X} receipt_of log n sent is = go (slice_get log n) refl is
  where
    go : (o : Option X) → slice_get log n ≡ o → if_there receipt_of o ≡ Some sent → n < length log
    go None at is = absurd (cc)
    go (Some x) at is = slice_get_within log n x at

pub receipt_there : (s : Recorded) (name sent : Name) → receipt s name ≡ Some sent → name.1 < log_length s name.0
receipt_there s (Guest, n) sent is = receipt_in_there guest_receipt s.guest n sent is
receipt_there s (Source, n) sent is = receipt_in_there source_receipt s.source n sent is
receipt_there s (Link, n) sent is = receipt_in_there link_receipt s.link n sent is
receipt_there s (Lane, n) sent is = receipt_in_there lane_receipt s.lane n sent is
receipt_there s (Pager, n) sent is = receipt_in_there pager_receipt s.pager n sent is

kept_by_test : (p : Name → Bool) (xs : List Name) (x : Name) → Contains (filter p xs) x → p x ≡ true
kept_by_test p [] x h = contains_nil x h
kept_by_test p (y ∷ xs) x h = go (λ h. kept_by_test p xs x h) (p y) refl h
  where
    here : p y ≡ true → (Contains (filter p xs) x → p x ≡ true) → (y ≡ x) ⊎ Contains (filter p xs) x → p x ≡ true
    here is rec (inl same) = sym (ap p same) ∙ is
    here is rec (inr h) = rec h

    go : (Contains (filter p xs) x → p x ≡ true) → (b : Bool) → p y ≡ b → Contains (cond b (y ∷ filter p xs) (filter p xs)) x → p x ≡ true
    go rec true is h = here is rec (contains_cons y x (filter p xs) h)
    go rec false is h = rec h

not_earlier : {A : Type 0} (test : A → Bool) (log : List A) (m n : ℕ) → m ≤ n → earlier test log n ≡ false → earlier test log m ≡ false
not_earlier test log m n le none = false_if_not_true _ (λ e. let w = earlier_witness test log m e in let some = earlier_true test log w.0 n w.1 w.3 w.4 (omega (arith, w.2)) in cc)

module _ (s : Recorded) (shape : IsRightShape s) (order : List Name) (merging : IsMerging s order) (n page : ℕ) (r : GuestRec) (is : slice_get s.guest n ≡ Some r) (touch : is_touch_of page r ≡ true) (uncovered : has_looked s page n ≡ false) (place : ℕ) (first : IsFirstPlacement s page place) where
  -- no delayed record stands before the placement in the order
  delayed_above : (c : Cursors) → IsConsistentCut s c → place ≡ c Pager → {name : Name} → IsDelayed s (Pager, place) name → c name.0 ≤ name.1
  delayed_above c cut at itself = omega (arith, at)
  delayed_above c cut at (later {a = a} {b = b} d log lt) = let e = delayed_above c cut at d in let f = ap (λ l. c l) log in omega arith
  delayed_above c cut at (receives {a = a} {b = b} d named) = go (delayed_above c cut at d) (cases_lt b.1 (c b.0))
    where
      go : c a.0 ≤ a.1 → (b.1 < c b.0) ⊎ (c b.0 ≤ b.1) → c b.0 ≤ b.1
      go e (inl lt) = absurd (omega (arith, cut.sent_taken b a lt named))
      go e (inr le) = le

  -- `ready` is before each placement
  ready_before : (k : ℕ) → passes is_ready (slice_get s.pager k) ≡ true → k < place
  ready_before k e = go k (is_ready_there (slice_get s.pager k) e)
    where
      is_ready_there : (o : Option PagerRec) → passes is_ready o ≡ true → o ≡ Some Ready
      is_ready_there None e = absurd (cc)
      is_ready_there (Some Ready) e = refl
      is_ready_there (Some (Got i)) e = absurd (cc)
      is_ready_there (Some (Pull i)) e = absurd (cc)
      is_ready_there (Some (Fault i)) e = absurd (cc)
      is_ready_there (Some (Join i)) e = absurd (cc)
      is_ready_there (Some (Want p)) e = absurd (cc)
      is_ready_there (Some (Place p i content)) e = absurd (cc)
      is_ready_there (Some (Zero p)) e = absurd (cc)
      is_ready_there (Some (Skip i)) e = absurd (cc)
      is_ready_there (Some All) e = absurd (cc)

      starts : (m : ℕ) (t : PagerRec) → slice_get s.pager m ≡ Some t → pager_start s m t ≡ true
      starts m t at = sym (ap (λ o. keeps (pager_start s m) o) at) ∙ shape Start (Pager, m)

      far : (m : ℕ) (t : PagerRec) → is_placement_of page t ≡ true → pager_start s m t ≡ true → 2 ≤ m
      far zero (Place p i content) e f = absurd (cc)
      far zero (Zero p) e f = absurd (cc)
      far (suc zero) (Place p i content) e f = absurd (cc)
      far (suc zero) (Zero p) e f = absurd (cc)
      far (suc (suc m)) (Place p i content) e f = omega arith
      far (suc (suc m)) (Zero p) e f = omega arith
      far m (Got i) e f = absurd (cc)
      far m (Pull i) e f = absurd (cc)
      far m Ready e f = absurd (cc)
      far m (Fault i) e f = absurd (cc)
      far m (Join i) e f = absurd (cc)
      far m (Want p) e f = absurd (cc)
      far m (Skip i) e f = absurd (cc)
      far m All e f = absurd (cc)

      go : (k : ℕ) → slice_get s.pager k ≡ Some Ready → k < place
      go zero at = let e = starts zero Ready at in absurd (cc)
      go (suc zero) at = let e = far place first.by first.places (starts place first.by first.stands) in omega arith
      go (suc (suc k)) at = let e = starts (suc (suc k)) Ready at in absurd (cc)

  -- a guest record that receives a delayed one comes after the touch
  receiver_after : (m k : ℕ) (o : Option GuestRec) → slice_get s.guest m ≡ o → if_there guest_receipt o ≡ Some (Pager, k) → place ≤ k → n < m
  receiver_after m k None at e le = absurd (cc)
  receiver_after m k (Some (Resume ready)) at e le =
      let same : ready ≡ k = ap (λ (x : Option Name). elim x [ None ↦ ready | Some z ↦ z.1 ]) e in
      let named : passes is_ready (slice_get s.pager ready) ≡ true = sym (ap (λ o. keeps (guest_named s) o) at) ∙ shape Named (Guest, m) in
      absurd (omega (arith, ready_before ready named))
  receiver_after m k (Some (See placement)) at e le =
      let same : placement ≡ k = ap (λ (x : Option Name). elim x [ None ↦ placement | Some z ↦ z.1 ]) e in
      go same (cases_lt n m) (cases_lt m n)
    where
      look : placement ≡ k → looks_at s page (See placement) ≡ true
      look same = earlier_true (is_placement_of page) s.pager place (suc placement) first.by first.stands first.places (omega arith)

      touch_is_no_look : n ≡ m → ⊥
      touch_is_no_look same =
          let f : Some r ≡ Some (See placement) = sym is ∙ ap (λ j. slice_get s.guest j) same ∙ at in
          let g : r ≡ See placement = cc in
          let h = ap (λ t. is_touch_of page t) g in
          cc

      go : placement ≡ k → (n < m) ⊎ (m ≤ n) → (m < n) ⊎ (n ≤ m) → n < m
      go same (inl lt) other = lt
      go same (inr le) (inl lt) =
          let e = earlier_true (looks_at s page) s.guest m n (See placement) at (look same) lt in
          absurd (cc)
      go same (inr le) (inr ge) = absurd (touch_is_no_look (omega arith))
  receiver_after m k (Some (Read v p c x)) at e le = absurd (cc)
  receiver_after m k (Some (Write v p c x)) at e le = absurd (cc)
  receiver_after m k (Some (Release v p)) at e le = absurd (cc)
  receiver_after m k (Some (Miss v p)) at e le = absurd (cc)
  receiver_after m k (Some Halt) at e le = absurd (cc)

  -- the guest receives from the pager alone
  from_pager : (o : Option GuestRec) (a : Name) → if_there guest_receipt o ≡ Some a → a.0 ≡ Pager
  from_pager None a e = absurd (cc)
  from_pager (Some (Resume k)) a e = sym (ap (λ (x : Option Name). elim x [ None ↦ Pager | Some z ↦ z.0 ]) e)
  from_pager (Some (See k)) a e = sym (ap (λ (x : Option Name). elim x [ None ↦ Pager | Some z ↦ z.0 ]) e)
  from_pager (Some (Read v p c x)) a e = absurd (cc)
  from_pager (Some (Write v p c x)) a e = absurd (cc)
  from_pager (Some (Release v p)) a e = absurd (cc)
  from_pager (Some (Miss v p)) a e = absurd (cc)
  from_pager (Some Halt) a e = absurd (cc)

  -- a delayed guest record comes after the touch
  delayed_guest : (c : Cursors) → IsConsistentCut s c → place ≡ c Pager → {name : Name} → IsDelayed s (Pager, place) name → name.0 ≡ Guest → n < name.1
  delayed_guest c cut at itself log = absurd (cc)
  delayed_guest c cut at (later {a = a} {b = b} d log lt) guest = let e = delayed_guest c cut at d (sym log ∙ guest) in omega arith
  delayed_guest c cut at (receives {a = a} {b = b} d named) guest =
      let b_is : b ≡ (Guest, b.1) = λ i. (guest i, b.1) in
      let named' : receipt s (Guest, b.1) ≡ Some a = ap (λ (z : Name). receipt s z) (sym b_is) ∙ named in
      let pager = from_pager (slice_get s.guest b.1) a named' in
      let a_is : a ≡ (Pager, a.1) = λ i. (pager i, a.1) in
      let above : c a.0 ≤ a.1 = delayed_above c cut at d in
      let on_pager : c a.0 ≡ (c Pager) = ap (λ l. c l) pager in
      receiver_after b.1 a.1 (slice_get s.guest b.1) refl (named' ∙ ap (λ (z : Name). Some z) a_is) (omega (arith, at, above, on_pager))

  -- the placement's place in the order, with its cut
  before_placement : (past : List Name) × StandsAfter order past (Pager, place)
  before_placement = stands_somewhere s order merging (Pager, place) (there_at s.pager place first.by first.stands)
    where
      there_at : (log : List PagerRec) (k : ℕ) (t : PagerRec) → slice_get log k ≡ Some t → k < length log
      there_at log k t e = go (cases_lt k (length log))
        where
          go : (k < length log) ⊎ (length log ≤ k) → k < length log
          go (inl lt) = lt
          go (inr le) = let f = slice_get_past log k le in absurd (cc)

  delayed_is_later : {name : Name} → IsDelayed s (Pager, place) name → name.0 ≡ Guest → n < name.1
  delayed_is_later d guest =
      let at = is_at s shape order merging before_placement.0 (Pager, place) before_placement.1 in
      delayed_guest (cursors_from at_start before_placement.0) at.0.cut at.1.is_next d guest

  module _ (delayed : List Name) (late : IsDelayedOrder s order (Pager, place) delayed) where
    sent_there : (name sent : Name) → receipt s name ≡ Some sent → sent.1 < log_length s sent.0
    sent_there name sent named =
        let stands = stands_somewhere s order merging name (receipt_there s name sent named) in
        let at = is_at s shape order merging stands.0 name stands.1 in
        omega (arith, at.1.sent_before sent named, at.0.cut.within sent.0)

    closed : (name sent : Name) → name.1 < late.cut name.0 → receipt s name ≡ Some sent → sent.1 < late.cut sent.0
    closed name sent lt named = go (cases_lt sent.1 (late.cut sent.0))
      where
        go : (sent.1 < late.cut sent.0) ⊎ (late.cut sent.0 ≤ sent.1) → sent.1 < late.cut sent.0
        go (inl lt) = lt
        go (inr le) =
            let d = late.is_delayed sent (sent_there name sent named) le in
            absurd (omega (arith, late.is_above name (receives d named)))

    -- the delayed order is a merging
    pub delayed_merges : IsMerging s delayed
    delayed_merges = subst (λ xs. IsMerging s xs) (sym late.is) (rearranged_merges s late.cut closed order merging)

    guest_small : n < log_length s Guest
    guest_small = go (cases_lt n (length s.guest))
      where
        go : (n < length s.guest) ⊎ (length s.guest ≤ n) → n < length s.guest
        go (inl lt) = lt
        go (inr le) = let f = slice_get_past s.guest n le in absurd (cc)

    -- the touch is below the cut
    touch_low : n < late.cut Guest
    touch_low = go (cases_lt n (late.cut Guest))
      where
        go : (n < late.cut Guest) ⊎ (late.cut Guest ≤ n) → n < late.cut Guest
        go (inl lt) = lt
        go (inr high) = absurd (omega (arith, delayed_is_later (late.is_delayed (Guest, n) guest_small high) refl))

    -- all that stands before the touch in it is below the cut
    below_cut : (kept : List Name) → StandsAfter delayed kept (Guest, n) → (x : Name) → Contains kept x → is_below late.cut x ≡ true
    below_cut kept stands x h = go (append_stands (filter (is_below late.cut) order) (filter (λ y. not (is_below late.cut y)) order) kept (Guest, n) stands.0 (sym late.is ∙ stands.1))
      where
        go : ((r : List Name) × (filter (is_below late.cut) order ≡ kept ++ (Guest, n) ∷ r)) ⊎ ((k : List Name) × (kept ≡ filter (is_below late.cut) order ++ k) × (filter (λ y. not (is_below late.cut y)) order ≡ k ++ (Guest, n) ∷ stands.0)) → is_below late.cut x ≡ true
        go (inl a) =
            let f = filter_stands (is_below late.cut) order kept (Guest, n) a.0 a.1 in
            kept_by_test (is_below late.cut) f.0 x (subst (λ xs. Contains xs x) f.2 h)
        go (inr b) =
            let f = filter_stands (λ y. not (is_below late.cut y)) order b.0 (Guest, n) stands.0 b.2 in
            let high : late.cut Guest ≤ n = not_below n (late.cut Guest) f.3 in
            absurd (omega (arith, touch_low))
          where
            not_below : (j k : ℕ) → not (nat_lt j k) ≡ true → k ≤ j
            not_below j k e = by (cases_lt j k)
              where
                by : (j < k) ⊎ (k ≤ j) → k ≤ j
                by (inl lt) = let f = lt-ltb j k lt in let g = ap not f in absurd (cc)
                by (inr le) = le

    -- so the page is not placed there, and the demand at an early access fails
    pub delayed_breaks : IsEarly s n r page → (kept : List Name) → StandsAfter delayed kept (Guest, n) → Demand s (Guest, n) (world_after s kept) → ⊥
    delayed_breaks early kept stands demand =
        let at = is_at s shape delayed delayed_merges kept (Guest, n) stands in
        let c = cursors_from at_start kept in
        let few : c Pager ≤ place = go (cases_lt place (c Pager)) in
        let absent = at.0.world.placed_is page ∙ not_earlier (is_placement_of page) s.pager (c Pager) place few first.is_first in
        early_breaks s shape delayed delayed_merges kept n page r is early stands absent demand
      where
        walks : Walks s at_start kept
        walks = (walk_at s at_start delayed kept (Guest, n) (merging_walks s delayed delayed_merges) stands).0

        go : (place < cursors_from at_start kept Pager) ⊎ (cursors_from at_start kept Pager ≤ place) → cursors_from at_start kept Pager ≤ place
        go (inl lt) =
            let h = passed s kept (Pager, place) walks lt in
            let b = ltb-true place (late.cut Pager) (below_cut kept stands (Pager, place) h) in
            absurd (omega (arith, late.is_above (Pager, place) itself))
        go (inr le) = le

    -- none of the page's placements stands before the touch
    pub delayed_unplaced : (kept : List Name) → StandsAfter delayed kept (Guest, n) → (m : ℕ) (t : PagerRec) → slice_get s.pager m ≡ Some t → is_placement_of page t ≡ true → Contains kept (Pager, m) → ⊥
    delayed_unplaced kept stands m t at places h =
        let low = ltb-true m (late.cut Pager) (below_cut kept stands (Pager, m) h) in
        let e = earlier_true (is_placement_of page) s.pager m place t at places (omega (arith, late.is_above (Pager, place) itself)) in
        let f = first.is_first in
        cc

    -- and the touch stands before the placement
    pub delayed_touched : (past : List Name) → StandsAfter delayed past (Pager, place) → Contains past (Guest, n)
    delayed_touched past stands = go (append_stands low high past (Pager, place) stands.0 (sym late.is ∙ stands.1))
      where
        low : List Name
        low = filter (is_below late.cut) order

        high : List Name
        high = filter (λ y. not (is_below late.cut y)) order

        in_order : Contains order (Guest, n)
        in_order = contains_place order Guest n 0 (log_length s Guest) (merging.each_once_in_order Guest) (omega arith) (omega (arith, guest_small))

        go : ((k : List Name) × (low ≡ past ++ (Pager, place) ∷ k)) ⊎ ((k : List Name) × (past ≡ low ++ k) × (high ≡ k ++ (Pager, place) ∷ stands.0)) → Contains past (Guest, n)
        go (inl a) =
            let f = filter_stands (is_below late.cut) order past (Pager, place) a.0 a.1 in
            absurd (omega (arith, ltb-true place (late.cut Pager) f.3, late.is_above (Pager, place) itself))
        go (inr b) = subst (λ xs. Contains xs (Guest, n)) (sym b.1) (Contains-append_left low b.0 (Guest, n) (contains_filter (is_below late.cut) order (Guest, n) in_order (lt-ltb n (late.cut Guest) touch_low)))

    -- so a touch after handover makes the page touched there
    pub delayed_is_touched : home s n ≡ AtTarget → (past : List Name) → StandsAfter delayed past (Pager, place) → (world_after s past).touched page ≡ true
    delayed_is_touched at past stands =
        let here = is_at s shape delayed delayed_merges past (Pager, place) stands in
        let taken = taken_before s delayed delayed_merges past (Pager, place) stands Guest n (delayed_touched past stands) in
        here.0.world.touched_is page ∙ touched_true s n (cursors_from at_start past Guest) page (record { by = r; stands = is; is_touch = touch; is_late = at }) taken
