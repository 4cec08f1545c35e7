-- A session without a page fault is safe, and a page fault breaks the demand at its record.
use Rattle.std.proofs.Common.{◌≡◌, ◌≢◌, ℕ, zero, suc, ◌<◌, ◌≤◌, ◌⊎◌, inl, inr, Bool, true, false, ◌||◌, List, [], ◌∷◌, Option, Some, None, refl, sym, ap, ◌∙◌, subst, arith, eqb-true, eq-eqb}
use Rattle.std.specs.Prelude.{slice_get}
use Rattle.std.proofs.lemmas.Bool.{cases_eq, cases_order}
use Rattle.migration_types.specs.declared.records.LogName.TheVariants.{Guest, Source, Link, Lane, Pager}
use Rattle.migration_types.specs.declared.records.GuestRec.{GuestRec}
use Rattle.migration_types.specs.declared.records.GuestRec.TheVariants.{Read, Write, Release, Miss, Halt, Resume, See}
use Rattle.migration_types.specs.declared.records.SourceRec.{SourceRec}
use Rattle.migration_types.specs.declared.records.SourceRec.TheVariants.{Send}
use Rattle.migration_types.specs.declared.records.PagerRec.{PagerRec}
use Rattle.migration_types.specs.declared.records.PagerRec.TheVariants.{Got, Pull, Ready, Fault, Join, Want, Place, Zero, Skip, All}
use Rattle.migration_types.specs.Sessions.{Recorded}
use Rattle.migration_types.specs.Sessions.{IsSession}
use Rattle.migration_types.specs.Receipts.{Name}
use Rattle.audit_model.specs.Mergings.{IsMerging, StandsAfter, at_start}
use Rattle.audit_model.specs.Walks.{cursors_from}
use Rattle.migration_types.specs.Memory.{page_of}
use Rattle.audit_model.specs.Flat.{changed, flat, freed, AtTarget, home, at_halt}
use Rattle.audit_model.specs.World.{world_after, Demand, guest_demand, source_demand, pager_demand, if_record, IsSafe}
use Rattle.audit_model.specs.Shape.{IsRightShape, is_placement_of, earlier}
use Rattle.audit_model.specs.Certificates.{is_access_of, is_touch_of}
use Rattle.audit_model.specs.declared.reasons.PageReason.{PageReason}
use Rattle.audit_model.specs.declared.reasons.PageReason.TheVariants.{Read as WrongRead, Early, Given, Stale, Twice, Altered, Unfit, Over}
use Rattle.audit_model.specs.Faults.{looks_at, has_looked, IsEarly, IsOver, GuestFault, SourceFault, PagerFault, if_fault, IsPageFault, HasNoPageFault}
use Rattle.audit_model.specs.Delayed.{IsFirstPlacement}
use Rattle.audit_model.proofs.History.{earlier_true, earlier_witness}
use Rattle.audit_model.proofs.Touched.{freed_by}
use Rattle.audit_model.proofs.FirstTouch.{IsFirstTouch, first_touch_at}
use Rattle.audit_model.proofs.Entries.{IsFreedFirst, IsKept, HasLook}
use Rattle.audit_model.specs.Worlds.{placed_before}
use Rattle.audit_model.proofs.Orders.{is_at, page_at_halt, ledger_at_halt, source_left, pager_left}
use Rattle.audit_model.specs.Fitting.{Fits}
use Rattle.audit_model.proofs.Fits.{session_fits}
use Rattle.audit_model.proofs.Safe.{safe_if_kept}

same_or_not : (xs ys : List ℕ) → (xs ≡ ys) ⊎ (xs ≡ ys → ⊥)
same_or_not [] [] = inl refl
same_or_not [] (y ∷ ys) = inr (λ e. cc)
same_or_not (x ∷ xs) [] = inr (λ e. cc)
same_or_not (x ∷ xs) (y ∷ ys) = go (cases_eq x y) (same_or_not xs ys)
  where
    go : (x ≡ y) ⊎ (x ≡ y → ⊥) → (xs ≡ ys) ⊎ (xs ≡ ys → ⊥) → (x ∷ xs ≡ y ∷ ys) ⊎ (x ∷ xs ≡ y ∷ ys → ⊥)
    go (inl a) (inl b) = inl (cc)
    go (inl a) (inr b) = inr (λ e. b (cc))
    go (inr a) b = inr (λ e. a (cc))

same_if_not_not : {A : Type 0} {x y : A} → (x ≡ y) ⊎ (x ≡ y → ⊥) → ((x ≡ y → ⊥) → ⊥) → x ≡ y
same_if_not_not (inl e) f = e
same_if_not_not (inr e) f = absurd (f e)

true_if_not_false : (b : Bool) → (b ≡ false → ⊥) → b ≡ true
true_if_not_false true f = refl
true_if_not_false false f = absurd (f refl)

pub false_if_not_true : (b : Bool) → (b ≡ true → ⊥) → b ≡ false
false_if_not_true true f = absurd (f refl)
false_if_not_true false f = refl

-- what a look is at
look_place : (s : Recorded) (page m n : ℕ) (r : GuestRec) → slice_get s.guest m ≡ Some r → m < n → looks_at s page r ≡ true → HasLook s page n
look_place s page m n (See k) is lt e =
    let w = earlier_witness (is_placement_of page) s.pager (suc k) e in
    record { place = w.0; by = w.1; stands = w.3; places = w.4; see = m; placement = k; sees = is; covers = omega (arith, w.2); is_earlier = lt }
look_place s page m n (Read v p c x) is lt e = absurd (cc)
look_place s page m n (Write v p c x) is lt e = absurd (cc)
look_place s page m n (Release v p) is lt e = absurd (cc)
look_place s page m n (Miss v p) is lt e = absurd (cc)
look_place s page m n Halt is lt e = absurd (cc)
look_place s page m n (Resume i) is lt e = absurd (cc)

pub clash : (b : Bool) {A : Type 0} → b ≡ true → b ≡ false → A
clash b e f = absurd (cc)

-- the first placement, if there is one
pub first_placement : (s : Recorded) (page n : ℕ) → earlier (is_placement_of page) s.pager n ≡ true → (place : ℕ) × IsFirstPlacement s page place
first_placement s page zero e = absurd (cc)
first_placement s page (suc n) e = go (λ f. first_placement s page n f) (slice_get s.pager n) refl (earlier (is_placement_of page) s.pager n) refl e
  where
    go : (earlier (is_placement_of page) s.pager n ≡ true → (place : ℕ) × IsFirstPlacement s page place) → (o : Option PagerRec) → slice_get s.pager n ≡ o → (b : Bool) → earlier (is_placement_of page) s.pager n ≡ b → changed (λ x found. is_placement_of page x || found) o (earlier (is_placement_of page) s.pager n) ≡ true → (place : ℕ) × IsFirstPlacement s page place
    go rec o is true f e = rec f
    go rec None is false f e = rec e
    go rec (Some t) is false f e = at (is_placement_of page t) refl e
      where
        at : (c : Bool) → is_placement_of page t ≡ c → (c || earlier (is_placement_of page) s.pager n) ≡ true → (place : ℕ) × IsFirstPlacement s page place
        at true g e = (n, record { by = t; stands = is; places = g; is_first = f })
        at false g e = rec e

-- the first placement of a page whose first touch is a release that is not covered
pub record IsOverPlacement (s : Recorded) (n : ℕ) (r : PagerRec) (page : ℕ) : Type 0 where
  pub places : is_placement_of page r ≡ true
  pub is_first : earlier (is_placement_of page) s.pager n ≡ false
  pub over : IsOver s page

pub over_fault : (s : Recorded) (n : ℕ) (r : PagerRec) (page : ℕ) → IsOverPlacement s n r page → PagerFault s Over n r
over_fault s n (Place a got content) page o = let same : page ≡ a = sym (eqb-true a page o.places) in subst (λ k. (earlier (is_placement_of k) s.pager n ≡ false) × IsOver s k) same (o.is_first, o.over)
over_fault s n (Zero a) page o = let same : page ≡ a = sym (eqb-true a page o.places) in subst (λ k. (earlier (is_placement_of k) s.pager n ≡ false) × IsOver s k) same (o.is_first, o.over)
over_fault s n (Got k) page o = let e = o.places in absurd (cc)
over_fault s n (Pull k) page o = let e = o.places in absurd (cc)
over_fault s n Ready page o = let e = o.places in absurd (cc)
over_fault s n (Fault k) page o = let e = o.places in absurd (cc)
over_fault s n (Join k) page o = let e = o.places in absurd (cc)
over_fault s n (Want k) page o = let e = o.places in absurd (cc)
over_fault s n (Skip k) page o = let e = o.places in absurd (cc)
over_fault s n All page o = let e = o.places in absurd (cc)

pub fault_over : (s : Recorded) (n : ℕ) (r : PagerRec) → PagerFault s Over n r → (page : ℕ) × IsOverPlacement s n r page
fault_over s n (Place a got content) f = (a, record { places = eq-eqb a a refl; is_first = f.0; over = f.1 })
fault_over s n (Zero a) f = (a, record { places = eq-eqb a a refl; is_first = f.0; over = f.1 })
fault_over s n (Got k) f = absurd f
fault_over s n (Pull k) f = absurd f
fault_over s n Ready f = absurd f
fault_over s n (Fault k) f = absurd f
fault_over s n (Join k) f = absurd f
fault_over s n (Want k) f = absurd f
fault_over s n (Skip k) f = absurd f
fault_over s n All f = absurd f

module _ (s : Recorded) (clean : HasNoPageFault s) where
  guest_clean : (reason : PageReason) (n : ℕ) (r : GuestRec) → slice_get s.guest n ≡ Some r → GuestFault s reason n r → ⊥
  guest_clean reason n r is f = clean reason (Guest, n) (subst (λ o. if_fault (GuestFault s reason n) o) (sym is) f)

  source_clean : (reason : PageReason) (n : ℕ) (r : SourceRec) → slice_get s.source n ≡ Some r → SourceFault s reason r → ⊥
  source_clean reason n r is f = clean reason (Source, n) (subst (λ o. if_fault (SourceFault s reason) o) (sym is) f)

  pager_clean : (reason : PageReason) (n : ℕ) (r : PagerRec) → slice_get s.pager n ≡ Some r → PagerFault s reason n r → ⊥
  pager_clean reason n r is f = clean reason (Pager, n) (subst (λ o. if_fault (PagerFault s reason n) o) (sym is) f)

  -- no placement has an earlier one
  not_twice : (page n m : ℕ) (r t : PagerRec) → slice_get s.pager n ≡ Some r → slice_get s.pager m ≡ Some t → is_placement_of page r ≡ true → is_placement_of page t ≡ true → m < n → ⊥
  not_twice page n m (Place q got content) t is js e f lt =
      let same : q ≡ page = eqb-true q page e in
      pager_clean Twice n (Place q got content) is (earlier_true (is_placement_of q) s.pager m n t js (subst (λ k. is_placement_of k t ≡ true) (sym same) f) lt)
  not_twice page n m (Zero q) t is js e f lt =
      let same : q ≡ page = eqb-true q page e in
      pager_clean Twice n (Zero q) is (earlier_true (is_placement_of q) s.pager m n t js (subst (λ k. is_placement_of k t ≡ true) (sym same) f) lt)
  not_twice page n m (Got k) t is js e f lt = absurd (cc)
  not_twice page n m (Pull k) t is js e f lt = absurd (cc)
  not_twice page n m Ready t is js e f lt = absurd (cc)
  not_twice page n m (Fault k) t is js e f lt = absurd (cc)
  not_twice page n m (Join k) t is js e f lt = absurd (cc)
  not_twice page n m (Want k) t is js e f lt = absurd (cc)
  not_twice page n m (Skip k) t is js e f lt = absurd (cc)
  not_twice page n m All t is js e f lt = absurd (cc)

  -- a page whose first touch is a release that is not covered is placed nowhere
  over_unplaced : (q : ℕ) → IsOver s q → (m : ℕ) (r : PagerRec) → slice_get s.pager m ≡ Some r → is_placement_of q r ≡ false
  over_unplaced q over m r is = false_if_not_true _ (λ e.
      let p = first_placement s q (suc m) (earlier_true (is_placement_of q) s.pager m (suc m) r is e (omega arith)) in
      pager_clean Over p.0 p.1.by p.1.stands (over_fault s p.0 p.1.by q (record { places = p.1.places; is_first = p.1.is_first; over = over })))

  -- the first touch is covered, or a release of a page that never comes
  covered_or_freed : (q f n : ℕ) → f ≤ n → IsFirstTouch s q f → HasLook s q n ⊎ IsFreedFirst s q
  covered_or_freed q f n le first = go (has_looked s q f) refl
    where
      unfreed : freed s f q ≡ false
      unfreed = false_if_not_true _ (λ e. let r = freed_by s f q e in absurd (omega (arith, r.1, first.is_first r.0 r.2)))

      by_kind : (r : GuestRec) → slice_get s.guest f ≡ Some r → is_touch_of q r ≡ true → has_looked s q f ≡ false → HasLook s q n ⊎ IsFreedFirst s q
      by_kind (Read v p c x) is e none = absurd (guest_clean Early f (Read v p c x) is (q, record { is_access = e; is_late = first.touch.is_late; is_kept = unfreed; is_uncovered = none }))
      by_kind (Write v p c x) is e none = absurd (guest_clean Early f (Write v p c x) is (q, record { is_access = e; is_late = first.touch.is_late; is_kept = unfreed; is_uncovered = none }))
      by_kind (Release v p) is e none =
          let same : p ≡ q = eqb-true p q e in
          let at : slice_get s.guest f ≡ Some (Release v q) = is ∙ ap (λ k. Some (Release v k)) same in
          let unplaced = over_unplaced q (record { release = f; vcpu = v; stands = at; is_late = first.touch.is_late; is_first = first.is_first; is_uncovered = none }) in
          inr (f, record { unplaced = unplaced; vcpu = v; is_release = at; is_late = first.touch.is_late; is_first = first.is_first })
      by_kind (Miss v p) is e none = absurd (cc)
      by_kind Halt is e none = absurd (cc)
      by_kind (Resume k) is e none = absurd (cc)
      by_kind (See k) is e none = absurd (cc)

      go : (b : Bool) → has_looked s q f ≡ b → HasLook s q n ⊎ IsFreedFirst s q
      go true e = let w = earlier_witness (looks_at s q) s.guest f e in inl (look_place s q w.0 n w.1 w.3 (omega (arith, w.2)) w.4)
      go false e = by_kind first.touch.by first.touch.stands first.touch.is_touch e

  pub clean_kept : (page : ℕ) → IsKept s page
  clean_kept page = record {
    honest = record {
      reads = λ n v c x is. same_if_not_not (cases_eq x (flat s n page c)) (λ e. guest_clean WrongRead n (Read v page c x) is e);
      sends = λ n content is. same_if_not_not (same_or_not content (page_of s.geometry.cells (flat s (at_halt s)) page)) (λ e. source_clean Stale n (Send page content) is e);
      owed = λ n content is. false_if_not_true _ (λ e. source_clean Given n (Send page content) is e);
    };
    once = λ n m r t is js e f. once n m r t is js e f (cases_order n m);
    placed_flat = λ n got content is. same_if_not_not (same_or_not content (page_of s.geometry.cells (flat s (at_halt s)) page)) (λ e. pager_clean Altered n (Place page got content) is e);
    zeroed_released = λ n is. true_if_not_false _ (λ e. pager_clean Unfit n (Zero page) is e);
    looks = λ n late. let first = first_touch_at s page n late in covered_or_freed page first.0 n first.1 first.2;
  }
    where
      once : (n m : ℕ) (r t : PagerRec) → slice_get s.pager n ≡ Some r → slice_get s.pager m ≡ Some t → is_placement_of page r ≡ true → is_placement_of page t ≡ true → (n ≡ m) ⊎ ((n < m) ⊎ (m < n)) → n ≡ m
      once n m r t is js e f (inl same) = same
      once n m r t is js e f (inr (inl lt)) = absurd (not_twice page m n t r js is f e lt)
      once n m r t is js e f (inr (inr lt)) = absurd (not_twice page n m r t is js e f lt)

  pub fitting_safe : Fits s → IsRightShape s → IsSafe s
  fitting_safe fits shape = safe_if_kept s shape fits (λ page small. clean_kept page)

  pub clean_safe : IsSession s → IsRightShape s → IsSafe s
  clean_safe limits = fitting_safe (session_fits s limits)

module _ (s : Recorded) (shape : IsRightShape s) (order : List Name) (merging : IsMerging s order) (past : List Name) where
  -- a fault other than `early` and `over` breaks the demand at its record, in every merging
  guest_breaks : (n : ℕ) (r : GuestRec) → GuestFault s WrongRead n r → guest_demand s n r (world_after s past) → ⊥
  guest_breaks n (Read v p c x) f d = f d.is_flat
  guest_breaks n _ f d = f

  source_breaks : (reason : PageReason) (n : ℕ) (r : SourceRec) → StandsAfter order past (Source, n) → SourceFault s reason r → source_demand s r (world_after s past) → ⊥
  source_breaks Given n (Send p content) stands f d =
      let e = is_at s shape order merging past (Source, n) stands in
      clash _ (ledger_at_halt s shape _ _ e.0 (source_left s shape _ (Source, n) e.0.cut e.1 refl) p ∙ f) d.is_owed
  source_breaks Stale n (Send p content) stands f d =
      let e = is_at s shape order merging past (Source, n) stands in
      f (d.is_the_page ∙ sym (page_at_halt s shape _ _ e.0 (source_left s shape _ (Source, n) e.0.cut e.1 refl) p))
  source_breaks _ n _ stands f d = f

  twice_breaks : (n p : ℕ) → StandsAfter order past (Pager, n) → earlier (is_placement_of p) s.pager n ≡ true → (world_after s past).placed p ≡ false → ⊥
  twice_breaks n p stands f d =
      let e = is_at s shape order merging past (Pager, n) stands in
      clash _ (e.0.world.placed_is p ∙ ap (λ k. placed_before s k p) (sym e.1.is_next) ∙ f) d

  pager_breaks : (reason : PageReason) (n : ℕ) (r : PagerRec) → reason ≢ Over → StandsAfter order past (Pager, n) → PagerFault s reason n r → pager_demand s r (world_after s past) → ⊥
  pager_breaks Twice n (Place p got content) other stands f d = twice_breaks n p stands f d.is_new
  pager_breaks Twice n (Zero p) other stands f d = twice_breaks n p stands f d.is_new
  pager_breaks Altered n (Place p got content) other stands f d =
      let e = is_at s shape order merging past (Pager, n) stands in
      f (d.is_the_page ∙ sym (page_at_halt s shape _ _ e.0 (pager_left s shape _ (Pager, n) e.0.cut e.1 refl) p))
  pager_breaks Unfit n (Zero p) other stands f d =
      let e = is_at s shape order merging past (Pager, n) stands in
      clash _ d.is_released (ledger_at_halt s shape _ _ e.0 (pager_left s shape _ (Pager, n) e.0.cut e.1 refl) p ∙ f)
  pager_breaks Over n r other stands f d = absurd (other refl)
  pager_breaks _ n _ other stands f d = f

  -- an access that no look covers breaks the demand in an order that has not yet placed its page
  pub early_breaks : (n page : ℕ) (r : GuestRec) → slice_get s.guest n ≡ Some r → IsEarly s n r page → StandsAfter order past (Guest, n) → (world_after s past).placed page ≡ false → Demand s (Guest, n) (world_after s past) → ⊥
  early_breaks n page r is early stands absent d =
      let e = is_at s shape order merging past (Guest, n) stands in
      let late : (world_after s past).home ≡ AtTarget = e.0.world.home_is ∙ ap (λ k. home s k) (sym e.1.is_next) ∙ early.is_late in
      let gone : (world_after s past).resident page ≡ false =
      e.0.world.resident_is page ∙ ap (λ b. b || freed s (cursors_from at_start past Guest) page) (sym (e.0.world.placed_is page) ∙ absent) ∙ ap (λ k. freed s k page) (sym e.1.is_next) ∙ early.is_kept in
      go r early.is_access late gone (subst (λ o. if_record (guest_demand s n) o (world_after s past)) is d)
    where
      go : (r : GuestRec) → is_access_of page r ≡ true → (world_after s past).home ≡ AtTarget → (world_after s past).resident page ≡ false → guest_demand s n r (world_after s past) → ⊥
      go (Read v q c x) access late gone d = let same : q ≡ page = eqb-true q page access in clash _ (subst (λ k. (world_after s past).resident k ≡ true) same (d.is_resident late)) gone
      go (Write v q c x) access late gone d = let same : q ≡ page = eqb-true q page access in clash _ (subst (λ k. (world_after s past).resident k ≡ true) same (d.is_resident late)) gone
      go (Release v q) access late gone d = absurd (cc)
      go (Miss v q) access late gone d = absurd (cc)
      go Halt access late gone d = absurd (cc)
      go (Resume k) access late gone d = absurd (cc)
      go (See k) access late gone d = absurd (cc)

  -- so at any record but for `early` and `over`
  pub fault_breaks : (reason : PageReason) (name : Name) → reason ≢ Early → reason ≢ Over → IsPageFault s reason name → StandsAfter order past name → Demand s name (world_after s past) → ⊥
  fault_breaks reason (Guest, n) other more f stands d = go (slice_get s.guest n) f d
    where
      wrong_read : (q : PageReason) → q ≢ Early → (r : GuestRec) → GuestFault s q n r → GuestFault s WrongRead n r
      wrong_read WrongRead e r f = f
      wrong_read Early e r f = absurd (e refl)
      wrong_read Given e r f = absurd f
      wrong_read Stale e r f = absurd f
      wrong_read Twice e r f = absurd f
      wrong_read Altered e r f = absurd f
      wrong_read Unfit e r f = absurd f
      wrong_read Over e r f = absurd f

      go : (o : Option GuestRec) → if_fault (GuestFault s reason n) o → if_record (guest_demand s n) o (world_after s past) → ⊥
      go None f d = f
      go (Some r) f d = guest_breaks n r (wrong_read reason other r f) d
  fault_breaks reason (Source, n) other more f stands d = go (slice_get s.source n) f d
    where
      go : (o : Option SourceRec) → if_fault (SourceFault s reason) o → if_record (source_demand s) o (world_after s past) → ⊥
      go None f d = f
      go (Some r) f d = source_breaks reason n r stands f d
  fault_breaks reason (Link, n) other more f stands d = f
  fault_breaks reason (Lane, n) other more f stands d = f
  fault_breaks reason (Pager, n) other more f stands d = go (slice_get s.pager n) f d
    where
      go : (o : Option PagerRec) → if_fault (PagerFault s reason n) o → if_record (pager_demand s) o (world_after s past) → ⊥
      go None f d = f
      go (Some r) f d = pager_breaks reason n r more stands f d
