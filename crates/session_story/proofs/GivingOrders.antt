-- A merging in which a placement gives a read its value.
use Rattle.std.proofs.Common.{◌≡◌, ◌≢◌, ℕ, zero, suc, ◌<◌, ◌≤◌, ◌⊎◌, inl, inr, Bool, true, ◌&&◌, List, [], ◌∷◌, ◌++◌, length, Option, Some, None, refl, sym, ap, ◌∙◌, subst, arith}
use Rattle.std.specs.Prelude.{Contains, slice_get, nat_lt}
use Rattle.std.proofs.lemmas.Bool.{cases_lt, and_parts, and_from, lt-ltb, ltb-true}
use Rattle.std.proofs.lemmas.Option.{slice_get_within}
use Rattle.std.proofs.lemmas.List.Elements.{Contains-append_left}
use Rattle.migration_types.specs.declared.records.LogName.TheVariants.{Guest, Source, Link, Lane, Pager}
use Rattle.migration_types.specs.declared.records.GuestRec.{GuestRec}
use Rattle.migration_types.specs.declared.records.GuestRec.TheVariants.{Read, Write, Release, Miss, Halt, Resume, See}
use Rattle.migration_types.specs.declared.records.SourceRec.{SourceRec}
use Rattle.migration_types.specs.declared.records.SourceRec.TheVariants.{Halted, State, Send, Again, Ask, Done, Back}
use Rattle.migration_types.specs.declared.records.LinkRec.{LinkRec}
use Rattle.migration_types.specs.declared.records.LinkRec.TheVariants.{Down, Up}
use Rattle.migration_types.specs.declared.records.LaneRec.{LaneRec}
use Rattle.migration_types.specs.declared.records.LaneRec.TheVariants.{Down as LaneDown}
use Rattle.migration_types.specs.declared.records.PagerRec.{PagerRec}
use Rattle.migration_types.specs.declared.records.PagerRec.TheVariants.{Got, Pull, Ready, Fault, Join, Want, Place, Zero, Skip, All}
use Rattle.migration_types.specs.Sessions.{Recorded}
use Rattle.migration_types.specs.Receipts.{Name, guest_receipt, source_receipt, link_receipt, lane_receipt, pager_receipt}
use Rattle.audit_model.specs.Names.{log_length, receipt, if_there}
use Rattle.audit_model.specs.Mergings.{IsMerging, StandsAfter, Cursors, at_start}
use Rattle.audit_model.specs.declared.home.Home.{Home}
use Rattle.audit_model.specs.declared.home.Home.TheVariants.{AtSource, AtTarget}
use Rattle.audit_model.specs.declared.reasons.ShapeReason.TheVariants.{Named, Start}
use Rattle.audit_model.specs.Flat.{changed, home_after, home}
use Rattle.audit_model.specs.Shape.{IsRightShape, keeps, passes, is_ready, is_halt, is_miss, is_placement_of, guest_named, source_named, pager_named, pager_start}
use Rattle.audit_model.specs.Walks.{next, cursors_from, Walks}
use Rattle.audit_model.specs.World.{start, run_from, world_after}
use Rattle.audit_model.proofs.Clean.{false_if_not_true, clash}
use Rattle.audit_model.proofs.Cuts.{contains_nil, contains_cons, merging_walks, taken_before}
use Rattle.audit_model.proofs.History.{home_at_halt, AtSource≢AtTarget}
use Rattle.audit_model.proofs.Late.{stands_somewhere}
use Rattle.audit_model.proofs.Orders.{is_at}
use Rattle.audit_model.proofs.Walked.{passed, walk_at}
use Rattle.session_story.specs.Values.{sets}
use Rattle.session_story.specs.Giving.{MayFollow, MayGive}
use Rattle.session_story.specs.Scans.{last_before}
use Rattle.page_facts.specs.Tables.{first_before}
use Rattle.merge_runs.proofs.OneMore.{run_append}
use Rattle.page_facts.proofs.Before.{first_none, first_some, IsFirstAt}
use Rattle.session_story.proofs.Givers.{last_none, last_some, IsLastAt}
use Rattle.session_story.proofs.Preceding.{Precedes, not_before_itself, from_pager, IsAhead, ahead, before}
use Rattle.session_story.proofs.TargetCells.{IsQuiet, given_run, puts_places}

-- ---- lists of names

pub split_at : (names : List Name) (x : Name) → Contains names x → (past : List Name) × StandsAfter names past x
split_at [] x h = contains_nil x h
split_at (y ∷ names) x h = go (λ h. split_at names x h) (contains_cons y x names h)
  where
    go : (Contains names x → (past : List Name) × StandsAfter names past x) → (y ≡ x) ⊎ Contains names x → (past : List Name) × StandsAfter (y ∷ names) past x
    go rec (inl same) = ([], (names, ap (λ z. z ∷ names) same))
    go rec (inr h) = let r = rec h in (y ∷ r.0, (r.1.0, ap (λ xs. y ∷ xs) r.1.1))

append_assoc : (xs : List Name) (x : Name) (ys zs : List Name) → (xs ++ x ∷ ys) ++ zs ≡ xs ++ x ∷ (ys ++ zs)
append_assoc [] x ys zs = refl
append_assoc (y ∷ xs) x ys zs = ap (λ l. y ∷ l) (append_assoc xs x ys zs)

-- a record of what stands before another stands somewhere too
pub stands_in : (order past before : List Name) (x y : Name) → StandsAfter order past y → StandsAfter past before x → StandsAfter order before x
stands_in order past before x y stands inner = (inner.0 ++ y ∷ stands.0, stands.1 ∙ ap (λ xs. xs ++ y ∷ stands.0) inner.1 ∙ append_assoc before x inner.0 (y ∷ stands.0))

pub still_contains : (past before : List Name) (x y : Name) → StandsAfter past before x → Contains before y → Contains past y
still_contains past before x y inner h = subst (λ xs. Contains xs y) (sym inner.1) (Contains-append_left before (x ∷ inner.0) y h)

pub cursors_over : (c : Cursors) (xs ys : List Name) → cursors_from c (xs ++ ys) ≡ cursors_from (cursors_from c xs) ys
cursors_over c [] ys = refl
cursors_over c (x ∷ xs) ys = cursors_over (next c x.0) xs ys

pub walks_over : (s : Recorded) (c : Cursors) (xs ys : List Name) → Walks s c (xs ++ ys) → Walks s (cursors_from c xs) ys
walks_over s c [] ys walks = walks
walks_over s c (x ∷ xs) ys walks = walks_over s (next c x.0) xs ys walks.1

log_is : (x y : Name) → ◌≡◌ {A = Option Name} (Some x) (Some y) → x.0 ≡ y.0
log_is x y e = let same : x ≡ y = cc in ap (λ (z : Name). z.0) same

place_is : (x y : Name) → ◌≡◌ {A = Option Name} (Some x) (Some y) → x.1 ≡ y.1
place_is x y e = let same : x ≡ y = cc in ap (λ (z : Name). z.1) same

-- ---- the guest's way

left_after : (o : Option GuestRec) (h : Home) → h ≢ AtSource → changed home_after o h ≢ AtSource
left_after None h left = left
left_after (Some Halt) h left = λ e. cc
left_after (Some (Resume k)) h left = λ e. cc
left_after (Some (Read v p c x)) h left = left
left_after (Some (Write v p c x)) h left = left
left_after (Some (Release v p)) h left = left
left_after (Some (Miss v p)) h left = left
left_after (Some (See k)) h left = left

pub stays_left : (s : Recorded) (m n : ℕ) → m ≤ n → home s m ≢ AtSource → home s n ≢ AtSource
stays_left s m zero le left = let same : m ≡ zero = omega arith in subst (λ k. home s k ≢ AtSource) same left
stays_left s m (suc n) le left = go (λ le. stays_left s m n le left) (cases_lt m (suc n))
  where
    go : (m ≤ n → home s n ≢ AtSource) → (m < suc n) ⊎ (suc n ≤ m) → home s (suc n) ≢ AtSource
    go rec (inl lt) = left_after (slice_get s.guest n) (home s n) (rec (omega (arith, lt)))
    go rec (inr ge) = let same : m ≡ suc n = omega arith in subst (λ k. home s k ≢ AtSource) same left

module _ (s : Recorded) (shape : IsRightShape s) where
  -- ---- what each record receives

  is_ready_there : (o : Option PagerRec) → passes is_ready o ≡ true → o ≡ Some Ready
  is_ready_there None e = absurd (cc)
  is_ready_there (Some Ready) e = refl
  is_ready_there (Some (Got i)) e = absurd (cc)
  is_ready_there (Some (Pull i)) e = absurd (cc)
  is_ready_there (Some (Fault i)) e = absurd (cc)
  is_ready_there (Some (Join i)) e = absurd (cc)
  is_ready_there (Some (Want p)) e = absurd (cc)
  is_ready_there (Some (Place p i content)) e = absurd (cc)
  is_ready_there (Some (Zero p)) e = absurd (cc)
  is_ready_there (Some (Skip i)) e = absurd (cc)
  is_ready_there (Some All) e = absurd (cc)

  -- `ready` is before each placement
  ready_before : (page p k : ℕ) (t : PagerRec) → slice_get s.pager p ≡ Some t → is_placement_of page t ≡ true → slice_get s.pager k ≡ Some Ready → k < p
  ready_before page p k t stands places at = go k at
    where
      starts : (m : ℕ) (r : PagerRec) → slice_get s.pager m ≡ Some r → pager_start s m r ≡ true
      starts m r is = sym (ap (λ o. keeps (pager_start s m) o) is) ∙ shape Start (Pager, m)

      far : (m : ℕ) (r : PagerRec) → is_placement_of page r ≡ true → pager_start s m r ≡ true → 2 ≤ m
      far zero (Place p i content) e f = absurd (cc)
      far zero (Zero p) e f = absurd (cc)
      far (suc zero) (Place p i content) e f = absurd (cc)
      far (suc zero) (Zero p) e f = absurd (cc)
      far (suc (suc m)) (Place p i content) e f = omega arith
      far (suc (suc m)) (Zero p) e f = omega arith
      far m (Got i) e f = absurd (cc)
      far m (Pull i) e f = absurd (cc)
      far m Ready e f = absurd (cc)
      far m (Fault i) e f = absurd (cc)
      far m (Join i) e f = absurd (cc)
      far m (Want p) e f = absurd (cc)
      far m (Skip i) e f = absurd (cc)
      far m All e f = absurd (cc)

      go : (k : ℕ) → slice_get s.pager k ≡ Some Ready → k < p
      go zero at = let e = starts zero Ready at in absurd (cc)
      go (suc zero) at = let e = far p t places (starts p t stands) in omega (arith, e)
      go (suc (suc k)) at = let e = starts (suc (suc k)) Ready at in absurd (cc)

  -- what the guest receives up to a record that is no look comes before the placements that may follow it
  pub received_before : (page g p : ℕ) (t : PagerRec) → slice_get s.pager p ≡ Some t → is_placement_of page t ≡ true → MayFollow s p g → ((k : ℕ) → slice_get s.guest g ≡ Some (See k) → ⊥) → (m : ℕ) (sent : Name) → m ≤ g → receipt s (Guest, m) ≡ Some sent → sent.1 < p
  received_before page g p t stands places follows no_look m sent le e = go (slice_get s.guest m) refl e
    where
      look : (k : ℕ) → slice_get s.guest m ≡ Some (See k) → (m < g) ⊎ (g ≤ m) → k < p
      look k is (inl lt) = follows m k lt is
      look k is (inr ge) = let same : m ≡ g = omega arith in absurd (no_look k (ap (λ j. slice_get s.guest j) (sym same) ∙ is))

      go : (o : Option GuestRec) → slice_get s.guest m ≡ o → if_there guest_receipt o ≡ Some sent → sent.1 < p
      go None is e = absurd (cc)
      go (Some (Resume k)) is e =
          let named : passes is_ready (slice_get s.pager k) ≡ true = sym (ap (λ o. keeps (guest_named s) o) is) ∙ shape Named (Guest, m) in
          let lt = ready_before page p k t stands places (is_ready_there (slice_get s.pager k) named) in
          omega (arith, lt, place_is (Pager, k) sent e)
      go (Some (See k)) is e = omega (arith, look k is (cases_lt m g), place_is (Pager, k) sent e)
      go (Some (Read v q c x)) is e = absurd (cc)
      go (Some (Write v q c x)) is e = absurd (cc)
      go (Some (Release v q)) is e = absurd (cc)
      go (Some (Miss v q)) is e = absurd (cc)
      go (Some Halt) is e = absurd (cc)

  module _ (n v page cell value : ℕ) (reads : slice_get s.guest n ≡ Some (Read v page cell value)) (late : home s n ≡ AtTarget) (q : ℕ) (gives : MayGive s n page cell value q) where
    places_it : is_placement_of page gives.by ≡ true
    places_it = puts_places page cell value gives.by gives.puts_it

    n_there : n < log_length s Guest
    n_there = slice_get_within s.guest n (Read v page cell value) reads

    q_there : q < log_length s Pager
    q_there = slice_get_within s.pager q gives.by gives.stands

    -- ---- what the others receive from the guest before the placement comes before the read

    halt_there : (o : Option GuestRec) → passes is_halt o ≡ true → o ≡ Some Halt
    halt_there None e = absurd (cc)
    halt_there (Some Halt) e = refl
    halt_there (Some (Resume i)) e = absurd (cc)
    halt_there (Some (Read v p c x)) e = absurd (cc)
    halt_there (Some (Write v p c x)) e = absurd (cc)
    halt_there (Some (Release v p)) e = absurd (cc)
    halt_there (Some (Miss v p)) e = absurd (cc)
    halt_there (Some (See k)) e = absurd (cc)

    halt_before : (h : ℕ) → slice_get s.guest h ≡ Some Halt → h < n
    halt_before h is = go (cases_lt h n)
      where
        left : home s n ≢ AtSource
        left e = AtSource≢AtTarget (sym e ∙ late)

        go : (h < n) ⊎ (n ≤ h) → h < n
        go (inl lt) = lt
        go (inr ge) = absurd (stays_left s n h ge left (home_at_halt s shape h is))

    by_source : (m g : ℕ) (o : Option SourceRec) → slice_get s.source m ≡ o → if_there source_receipt o ≡ Some (Guest, g) → g < n
    by_source m g None is e = absurd (cc)
    by_source m g (Some (Halted h)) is e =
        let named : passes is_halt (slice_get s.guest h) ≡ true = sym (ap (λ o. keeps (source_named s m) o) is) ∙ shape Named (Source, m) in
        omega (arith, halt_before h (halt_there (slice_get s.guest h) named), place_is (Guest, h) (Guest, g) e)
    by_source m g (Some State) is e = absurd (cc)
    by_source m g (Some (Send p content)) is e = absurd (cc)
    by_source m g (Some (Again k)) is e = absurd (cc)
    by_source m g (Some (Ask up)) is e = absurd (let f = log_is (Link, up) (Guest, g) e in cc)
    by_source m g (Some Done) is e = absurd (cc)
    by_source m g (Some Back) is e = absurd (cc)

    by_link : (g : ℕ) (o : Option LinkRec) → if_there link_receipt o ≡ Some (Guest, g) → g < n
    by_link g None e = absurd (cc)
    by_link g (Some (Down k)) e = absurd (let f = log_is (Source, k) (Guest, g) e in cc)
    by_link g (Some (Up k)) e = absurd (let f = log_is (Pager, k) (Guest, g) e in cc)

    by_lane : (g : ℕ) (o : Option LaneRec) → if_there lane_receipt o ≡ Some (Guest, g) → g < n
    by_lane g None e = absurd (cc)
    by_lane g (Some (LaneDown k)) e = absurd (let f = log_is (Source, k) (Guest, g) e in cc)

    by_pager : (m g : ℕ) → m ≤ q → (o : Option PagerRec) → slice_get s.pager m ≡ o → if_there pager_receipt o ≡ Some (Guest, g) → g < n
    by_pager m g le None is e = absurd (cc)
    by_pager m g le (Some (Fault k)) is e = omega (arith, less (cases_lt m q), place_is (Guest, k) (Guest, g) e)
      where
        named : passes is_miss (slice_get s.guest k) ≡ true
        named = sym (ap (λ o. keeps (pager_named s m) o) is) ∙ shape Named (Pager, m)

        not_read : n ≡ k → ⊥
        not_read same = let f : passes is_miss (Some (Read v page cell value)) ≡ true = ap (λ o. passes is_miss o) (sym reads ∙ ap (λ j. slice_get s.guest j) same) ∙ named in cc

        less : (m < q) ⊎ (q ≤ m) → k < n
        less (inl lt) = by_cases (gives.precedes m k lt is) (cases_lt k n)
          where
            by_cases : k ≤ n → (k < n) ⊎ (n ≤ k) → k < n
            by_cases le (inl lt) = lt
            by_cases le (inr ge) = absurd (not_read (omega arith))
        less (inr ge) =
            let same : m ≡ q = omega arith in
            let f : Some (Fault k) ≡ Some gives.by = sym is ∙ ap (λ j. slice_get s.pager j) same ∙ gives.stands in
            let g : Fault k ≡ gives.by = cc in
            let h = ap (λ r. is_placement_of page r) g ∙ places_it in
            absurd (cc)
    by_pager m g le (Some (Got d)) is e = absurd (let f = log_is (Link, d) (Guest, g) e in cc)
    by_pager m g le (Some (Pull d)) is e = absurd (let f = log_is (Lane, d) (Guest, g) e in cc)
    by_pager m g le (Some Ready) is e = absurd (cc)
    by_pager m g le (Some (Join w)) is e = absurd (cc)
    by_pager m g le (Some (Want p)) is e = absurd (cc)
    by_pager m g le (Some (Place p got content)) is e = absurd (cc)
    by_pager m g le (Some (Zero p)) is e = absurd (cc)
    by_pager m g le (Some (Skip k)) is e = absurd (cc)
    by_pager m g le (Some All) is e = absurd (cc)

    known : (name : Name) (g : ℕ) → receipt s name ≡ Some (Guest, g) → (name.0 ≡ Pager → name.1 ≤ q) → g < n
    known (Guest, m) g e of = absurd (let f = from_pager s m (Guest, g) e in cc)
    known (Source, m) g e of = by_source m g (slice_get s.source m) refl e
    known (Link, m) g e of = by_link g (slice_get s.link m) e
    known (Lane, m) g e of = by_lane g (slice_get s.lane m) e
    known (Pager, m) g e of = by_pager m g (of refl) (slice_get s.pager m) refl e

    -- ---- the read before the page's later placements

    -- in this order the read stands before each later placement of the page
    abbrev IsBeforeLater : List Name → Type 0
    IsBeforeLater order = (m : ℕ) (r : PagerRec) → q < m → slice_get s.pager m ≡ Some r → is_placement_of page r ≡ true → Precedes order (Guest, n) (Pager, m)

    later_test : ℕ → PagerRec → Bool
    later_test m r = nat_lt q m && is_placement_of page r

    first_step : (order : List Name) → IsMerging s order → (new : List Name) × IsMerging s new × IsBeforeLater new
    unfolding later_test
    first_step order merging = go (first_before later_test s.pager (length s.pager)) refl
      where
        go : (o : Option ℕ) → first_before later_test s.pager (length s.pager) ≡ o → (new : List Name) × IsMerging s new × IsBeforeLater new
        go None none = (order, merging, λ m r lt is places. clash _ (and_from (nat_lt q m) (is_placement_of page r) (lt-ltb q m lt) places) (first_none later_test s.pager (length s.pager) none m r is (slice_get_within s.pager m r is)))
        go (Some p) found = (done.0, done.1.merges, each)
          where
            first : IsFirstAt later_test s.pager (length s.pager) p
            first = first_some later_test s.pager (length s.pager) p found

            parts : (nat_lt q p ≡ true) × (is_placement_of page first.by ≡ true)
            parts = and_parts (nat_lt q p) (is_placement_of page first.by) first.passes_test

            done : (new : List Name) × IsAhead s shape order merging n p n_there first.below new
            done = ahead s shape order merging n p n_there first.below (received_before page n p first.by first.stands parts.1 (gives.is_last p first.by (ltb-true q p parts.0) first.stands parts.1) (λ k is. let e : Some (Read v page cell value) ≡ Some (See k) = sym reads ∙ is in cc))

            each : IsBeforeLater done.0
            each m r lt is places past stands = by (cases_lt p m) (cases_lt m p)
              where
                by : (p < m) ⊎ (m ≤ p) → (m < p) ⊎ (p ≤ m) → Contains past (Guest, n)
                by (inl less) other =
                    let at = is_at s shape done.0 done.1.merges past (Pager, m) stands in
                    let walks = (walk_at s at_start done.0 past (Pager, m) (merging_walks s done.0 done.1.merges) stands).0 in
                    let inner = split_at past (Pager, p) (passed s past (Pager, p) walks (omega (arith, less, at.1.is_next))) in
                    still_contains past inner.0 (Pager, p) (Guest, n) inner.1 (done.1.is_before inner.0 (stands_in done.0 past inner.0 (Pager, p) (Pager, m) stands inner.1))
                by (inr le) (inr ge) = let same : p ≡ m = omega arith in done.1.is_before past (subst (λ k. StandsAfter done.0 past (Pager, k)) (sym same) stands)
                by (inr le) (inl less) = absurd (clash _ (and_from (nat_lt q m) (is_placement_of page r) (lt-ltb q m lt) places) (first.is_first m r is less))

    -- ---- the placement before the read

    second_step : (order : List Name) → IsMerging s order → IsBeforeLater order → (new : List Name) × IsMerging s new × IsBeforeLater new × Precedes new (Pager, q) (Guest, n)
    second_step order merging later =
        let done = before s shape order merging q n q_there n_there known in
        (done.0, done.1.merges, (λ m r lt is places. done.1.keeps (Guest, n) (Pager, m) (omega arith) lt (later m r lt is places)), done.1.is_before)

    -- ---- the cell's last change before the placement

    -- in this order each change of the cell before the read stands before the placement
    abbrev IsChangedBefore : List Name → Type 0
    IsChangedBefore order = (past : List Name) → StandsAfter order past (Pager, q) → (m : ℕ) (r : GuestRec) → slice_get s.guest m ≡ Some r → sets page cell r ≡ true → m < n → m < cursors_from at_start past Guest

    third_step : (order : List Name) → IsMerging s order → IsBeforeLater order → Precedes order (Pager, q) (Guest, n) → (new : List Name) × IsMerging s new × IsBeforeLater new × Precedes new (Pager, q) (Guest, n) × IsChangedBefore new
    third_step order merging later precedes = go (last_before (λ m. sets page cell) s.guest n) refl
      where
        go : (o : Option ℕ) → last_before (λ m. sets page cell) s.guest n ≡ o → (new : List Name) × IsMerging s new × IsBeforeLater new × Precedes new (Pager, q) (Guest, n) × IsChangedBefore new
        go None none = (order, merging, later, precedes, λ past stands m r is change lt. clash _ change (last_none (λ m. sets page cell) s.guest n none m r is lt))
        go (Some d) found = (done.0, done.1.merges, kept, done.1.keeps (Pager, q) (Guest, n) (omega arith) last.below precedes, changed_before)
          where
            last : IsLastAt (λ (m : ℕ). sets page cell) s.guest n d
            last = last_some (λ m. sets page cell) s.guest n d found

            no_look : (k : ℕ) → slice_get s.guest d ≡ Some (See k) → ⊥
            no_look k is =
                let e : Some last.by ≡ Some (See k) = sym last.stands ∙ is in
                let f : last.by ≡ See k = cc in
                let g = ap (λ r. sets page cell r) (sym f) ∙ last.passes_test in
                cc

            done : (new : List Name) × IsAhead s shape order merging d q (omega (arith, last.below, n_there)) q_there new
            done = ahead s shape order merging d q (omega (arith, last.below, n_there)) q_there (received_before page d q gives.by gives.stands places_it (gives.follows d found) no_look)

            kept : IsBeforeLater done.0
            kept m r lt is places = done.1.keeps (Guest, n) (Pager, m) last.below (omega (arith, lt)) (later m r lt is places)

            changed_before : IsChangedBefore done.0
            changed_before past stands m r is change lt = by (cases_lt d m)
              where
                taken : d < cursors_from at_start past Guest
                taken = taken_before s done.0 done.1.merges past (Pager, q) stands Guest d (done.1.is_before past stands)

                by : (d < m) ⊎ (m ≤ d) → m < cursors_from at_start past Guest
                by (inl more) = clash _ change (last.is_last m r is more lt)
                by (inr le) = omega (arith, le, taken)

    -- ---- so just before the read the cell has the value

    pub record IsGiving (order : List Name) : Type 0 where
      pub merges : IsMerging s order
      pub past : List Name
      pub stands : StandsAfter order past (Guest, n)
      pub is_placed : Contains past (Pager, q)
      pub has_it : (world_after s past).target page cell ≡ value

    has_value_at : (order : List Name) (merging : IsMerging s order) → IsBeforeLater order → Precedes order (Pager, q) (Guest, n) → IsChangedBefore order → (past : List Name) → StandsAfter order past (Guest, n) → (world_after s past).target page cell ≡ value
    has_value_at order merging later precedes changes past stands =
        ap (λ xs. (run_from s (start s) xs).target page cell) inner.1.1
        ∙ ap (λ w. w.target page cell) (run_append s (start s) inner.0 ((Pager, q) ∷ rest))
        ∙ given_run s page cell q value gives.by gives.stands gives.puts_it from rest (run_from s (start s) inner.0) walks quiet
      where
        inner : (before : List Name) × StandsAfter past before (Pager, q)
        inner = split_at past (Pager, q) (precedes past stands)

        rest : List Name
        rest = inner.1.0

        at_q : StandsAfter order inner.0 (Pager, q)
        at_q = stands_in order past inner.0 (Pager, q) (Guest, n) stands inner.1

        from : Cursors
        from = next (cursors_from at_start inner.0) Pager

        walks_past : Walks s at_start past
        walks_past = (walk_at s at_start order past (Guest, n) (merging_walks s order merging) stands).0

        walks : Walks s from rest
        walks = (walks_over s at_start inner.0 ((Pager, q) ∷ rest) (subst (λ xs. Walks s at_start xs) inner.1.1 walks_past)).1

        ends : cursors_from at_start past ≡ cursors_from from rest
        ends = ap (λ xs. cursors_from at_start xs) inner.1.1 ∙ cursors_over at_start inner.0 ((Pager, q) ∷ rest)

        q_is : q ≡ cursors_from at_start inner.0 Pager
        q_is = (is_at s shape order merging inner.0 (Pager, q) at_q).1.is_next

        n_is : n ≡ cursors_from at_start past Guest
        n_is = (is_at s shape order merging past (Guest, n) stands).1.is_next

        quiet : (name : Name) → from name.0 ≤ name.1 → name.1 < cursors_from from rest name.0 → IsQuiet s page cell name
        quiet (Guest, m) le lt = λ r is. false_if_not_true _ (λ e. let low = changes inner.0 at_q m r is e (omega (arith, lt, ap (λ c. c Guest) ends, n_is)) in absurd (omega (arith, low, le)))
        quiet (Source, m) le lt = tt
        quiet (Link, m) le lt = tt
        quiet (Lane, m) le lt = tt
        quiet (Pager, m) le lt = λ r is. false_if_not_true _ (λ e.
            let before_m = split_at past (Pager, m) (passed s past (Pager, m) walks_past (omega (arith, lt, ap (λ c. c Pager) ends))) in
            let h = later m r (omega (arith, le, q_is)) is e before_m.0 (stands_in order past before_m.0 (Pager, m) (Guest, n) stands before_m.1) in
            not_before_itself s order merging past (Guest, n) stands (still_contains past before_m.0 (Pager, m) (Guest, n) before_m.1 h))

    pub giving_order : (order : List Name) → IsMerging s order → (new : List Name) × IsGiving new
    giving_order order merging =
        let one = first_step order merging in
        let two = second_step one.0 one.1 one.2 in
        let three = third_step two.0 two.1 two.2 two.3 in
        let at = stands_somewhere s three.0 three.1 (Guest, n) n_there in (
          three.0,
          record {
            merges = three.1;
            past = at.0;
            stands = at.1;
            is_placed = three.3 at.0 at.1;
            has_it = has_value_at three.0 three.1 three.2 three.3 three.4 at.0 at.1;
          },
        )
