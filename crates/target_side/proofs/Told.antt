-- What a history says of the happenings before each of its own.
use Rattle.std.proofs.Common.{◌≡◌, ℕ, zero, suc, ◌<◌, ◌≤◌, ◌⊎◌, inl, inr, ◌==◌, ◌&&◌, ◌||◌, Bool, true, false, cond, List, length, Option, Some, None, refl, sym, ap, ◌∙◌, subst, arith}
use Rattle.std.specs.Prelude.{slice_get, slice_index, is_some, max, if◌then◌else◌}
use Rattle.std.proofs.lemmas.Bool.{cases_lt}
use Rattle.std.proofs.lemmas.Option.{slice_get_within}
use Rattle.std.proofs.lemmas.Bool.Decides.{nat_tests}
use Rattle.migration_types.specs.declared.records.GuestRec.{GuestRec}
use Rattle.migration_types.specs.declared.records.GuestRec.TheVariants.{Read, Write, Release, Miss, Halt, Resume, See}
use Rattle.migration_types.specs.PageSets.{Pages}
use Rattle.residency.specs.Placements.{Placements, raised, is_covered, is_resident}
use Rattle.audit_model.specs.Flat.{changed}
use Rattle.target_side.specs.History.{Happening, Did, Placed, Target, freed_by, released_at, recorded_after, target_after, target_at, IsHistory, IsHistoryOf}
use Rattle.target_side.specs.TargetPart.{TargetPart}
use Rattle.target_side.specs.Told.{IsEarlier, IsPlaced, IsLateRelease, IsReleased, IsSeen, IsUnwritten, IsLastWrite, IsFill, IsCell, IsOwn, IsPlacedOnce, AreSeen, AreOfPlacements, IsFrontier, IsOfHistory}
use Rattle.target_side.proofs.TargetKeeping.{covered_resident}

longer : (h : List Happening) (n : ℕ) (x : Happening) → IsEarlier h n x → IsEarlier h (suc n) x
longer h n x e = let lt = e.before in record { place = e.place; before = omega (arith, lt); there = e.there }

here : (h : List Happening) (n : ℕ) (x : Happening) → slice_get h n ≡ Some x → IsEarlier h (suc n) x
here h n x is = record { place = n; before = omega arith; there = is }

placed_longer : (h : List Happening) (n page number : ℕ) → IsPlaced h n page number → IsPlaced h (suc n) page number
placed_longer h n page number p = record { contents = p.contents; placement = longer h n _ p.placement }

-- a release leaves the frontier, and whether the guest runs
release_frontier : (v p : ℕ) (t : Target) → (recorded_after (Release v p) t).frontier ≡ t.frontier
release_frontier v p t = go t.is_resumed
  where
    go : (s : Bool) → (cond s (released_at p t) t).frontier ≡ t.frontier
    go true = refl
    go false = refl

release_runs : (v p : ℕ) (t : Target) → (recorded_after (Release v p) t).is_resumed ≡ t.is_resumed
release_runs v p t = go t.is_resumed
  where
    go : (s : Bool) → (cond s (released_at p t) t).is_resumed ≡ t.is_resumed
    go true = refl
    go false = refl

-- a record of the guest places nothing
did_placed : (r : GuestRec) (t : Target) → (recorded_after r t).placed ≡ t.placed
did_placed (Read v p c x) t = refl
did_placed (Write v p c x) t = refl
did_placed (Release v p) t = go t.is_resumed
  where
    go : (s : Bool) → (cond s (released_at p t) t).placed ≡ t.placed
    go true = refl
    go false = refl
did_placed (Miss v p) t = refl
did_placed Halt t = refl
did_placed (Resume k) t = refl
did_placed (See k) t = refl

-- a page that is resident was placed
pub placed_before : (h : List Happening) (n page number : ℕ) → (target_at h n).placed page ≡ Some number → IsPlaced h n page number
placed_before h zero page number e = absurd (cc)
placed_before h (suc n) page number e = go (λ e. placed_longer h n page number (placed_before h n page number e)) (slice_get h n) refl e
  where
    placement : ((target_at h n).placed page ≡ Some number → IsPlaced h (suc n) page number) → (p k : ℕ) (xs : List ℕ) → slice_get h n ≡ Some (Placed p k xs) → (b : Bool) → (p == page) ≡ b
        → (if b then Some k else (target_at h n).placed page) ≡ Some number → IsPlaced h (suc n) page number
    placement rec p k xs is true same e =
        let page_is : p ≡ page = grind (arith, nat_tests, same) in
        let number_is : k ≡ number = cc in
        record { contents = xs; placement = here h n (Placed page number xs) (is ∙ ap (λ q. Some (Placed q k xs)) page_is ∙ ap (λ m. Some (Placed page m xs)) number_is) }
    placement rec p k xs is false same e = rec e

    go : ((target_at h n).placed page ≡ Some number → IsPlaced h (suc n) page number) → (o : Option Happening) → slice_get h n ≡ o → (changed target_after o (target_at h n)).placed page ≡ Some number → IsPlaced h (suc n) page number
    go rec None is e = rec e
    go rec (Some (Did r)) is e = rec (sym (ap (λ (all : Placements). all page) (did_placed r (target_at h n))) ∙ e)
    go rec (Some (Placed p k xs)) is e = placement rec p k xs is (p == page) refl e

-- a page that was placed is resident
stays_placed : (o : Option Happening) (t : Target) (page : ℕ) → is_some (t.placed page) ≡ true → is_some ((changed target_after o t).placed page) ≡ true
stays_placed None t page e = e
stays_placed (Some (Did r)) t page e = ap (λ (all : Placements). is_some (all page)) (did_placed r t) ∙ e
stays_placed (Some (Placed p k xs)) t page e = at (p == page)
  where
    at : (b : Bool) → is_some (if b then Some k else t.placed page) ≡ true
    at true = refl
    at false = e

resident_after : (h : List Happening) (n m page number : ℕ) (contents : List ℕ) → slice_get h m ≡ Some (Placed page number contents) → m < n → is_some ((target_at h n).placed page) ≡ true
resident_after h zero m page number contents is lt = absurd (omega (arith, lt))
resident_after h (suc n) m page number contents is lt = go (λ l. resident_after h n m page number contents is l) (cases_lt m n)
  where
    itself : (b : Bool) → (page == page) ≡ b → is_some (if b then Some number else (target_at h n).placed page) ≡ true
    itself true e = refl
    itself false e = absurd (grind (arith, nat_tests, e))

    go : (m < n → is_some ((target_at h n).placed page) ≡ true) → (m < n) ⊎ (n ≤ m) → is_some ((target_at h (suc n)).placed page) ≡ true
    go rec (inl l) = stays_placed (slice_get h n) (target_at h n) page (rec l)
    go rec (inr l) =
        let same : m ≡ n = omega (arith, lt, l) in
        subst (λ (o : Option Happening). is_some ((changed target_after o (target_at h n)).placed page) ≡ true) (sym (subst (λ k. slice_get h k ≡ Some (Placed page number contents)) same is)) (itself (page == page) refl)

-- what was placed is not absent
not_absent : (o : Option ℕ) (released : Bool) → is_some o ≡ true → is_resident o released ≡ false → ⊥
not_absent None released e none = absurd (cc)
not_absent (Some k) released e none = absurd (cc)

pub placed_once : (h : List Happening) → IsHistory h → IsPlacedOnce h
placed_once h all n m page number other contents others at_n at_m = go (cases_lt n m) (cases_lt m n)
  where
    clash : (i j k l : ℕ) (xs ys : List ℕ) → slice_get h i ≡ Some (Placed page k xs) → slice_get h j ≡ Some (Placed page l ys) → i < j → ⊥
    clash i j k l xs ys at_i at_j lt = not_absent ((target_at h j).placed page) ((target_at h j).freed page) (resident_after h j i page k xs at_i lt) (all j (Placed page l ys) at_j)

    go : (n < m) ⊎ (m ≤ n) → (m < n) ⊎ (n ≤ m) → n ≡ m
    go (inl l) other_way = absurd (clash n m number other contents others at_n at_m l)
    go (inr l) (inl k) = absurd (clash m n other number others contents at_m at_n k)
    go (inr l) (inr k) = omega (arith, l, k)

-- the frontier is a look
pub looked_before : (h : List Happening) (n most : ℕ) → (target_at h n).frontier ≡ Some most → IsEarlier h n (Did (See most))
looked_before h zero most e = absurd (cc)
looked_before h (suc n) most e = go (λ e. longer h n _ (looked_before h n most e)) (slice_get h n) refl e
  where
    raised_is : ((target_at h n).frontier ≡ Some most → IsEarlier h (suc n) (Did (See most))) → (k : ℕ) → slice_get h n ≡ Some (Did (See k)) → (f : Option ℕ) → (target_at h n).frontier ≡ f → raised k f ≡ Some most → IsEarlier h (suc n) (Did (See most))
    raised_is rec k is None was e = let same : k ≡ most = cc in here h n _ (is ∙ ap (λ m. Some (Did (See m))) same)
    raised_is rec k is (Some f) was e = by (cases_lt f k)
      where
        max_is : max f k ≡ most
        max_is = cc

        by : (f < k) ⊎ (k ≤ f) → IsEarlier h (suc n) (Did (See most))
        by (inl l) = let same : k ≡ most = omega (arith, max_is, l) in here h n _ (is ∙ ap (λ m. Some (Did (See m))) same)
        by (inr l) = let same : f ≡ most = omega (arith, max_is, l) in rec (was ∙ ap Some same)

    go : ((target_at h n).frontier ≡ Some most → IsEarlier h (suc n) (Did (See most))) → (o : Option Happening) → slice_get h n ≡ o → (changed target_after o (target_at h n)).frontier ≡ Some most → IsEarlier h (suc n) (Did (See most))
    go rec None is e = rec e
    go rec (Some (Did (Read v p c x))) is e = rec e
    go rec (Some (Did (Write v p c x))) is e = rec e
    go rec (Some (Did (Release v p))) is e = rec (sym (release_frontier v p (target_at h n)) ∙ e)
    go rec (Some (Did (Miss v p))) is e = rec e
    go rec (Some (Did Halt)) is e = rec e
    go rec (Some (Did (Resume k))) is e = rec e
    go rec (Some (Did (See k))) is e = raised_is rec k is (target_at h n).frontier refl e
    go rec (Some (Placed p k xs)) is e = rec e

-- the guest runs at the target once it has resumed
stays_resumed : (o : Option Happening) (t : Target) → t.is_resumed ≡ true → (changed target_after o t).is_resumed ≡ true
stays_resumed None t e = e
stays_resumed (Some (Did (Read v p c x))) t e = e
stays_resumed (Some (Did (Write v p c x))) t e = e
stays_resumed (Some (Did (Release v p))) t e = release_runs v p t ∙ e
stays_resumed (Some (Did (Miss v p))) t e = e
stays_resumed (Some (Did Halt)) t e = e
stays_resumed (Some (Did (Resume k))) t e = refl
stays_resumed (Some (Did (See k))) t e = e
stays_resumed (Some (Placed p k xs)) t e = e

resumed_after : (h : List Happening) (n m ready : ℕ) → slice_get h m ≡ Some (Did (Resume ready)) → m < n → (target_at h n).is_resumed ≡ true
resumed_after h zero m ready is lt = absurd (omega (arith, lt))
resumed_after h (suc n) m ready is lt = go (λ l. resumed_after h n m ready is l) (cases_lt m n)
  where
    go : (m < n → (target_at h n).is_resumed ≡ true) → (m < n) ⊎ (n ≤ m) → (target_at h (suc n)).is_resumed ≡ true
    go rec (inl l) = stays_resumed (slice_get h n) (target_at h n) (rec l)
    go rec (inr l) =
        let same : m ≡ n = omega (arith, lt, l) in
        subst (λ (o : Option Happening). (changed target_after o (target_at h n)).is_resumed ≡ true) (sym (subst (λ k. slice_get h k ≡ Some (Did (Resume ready))) same is)) refl

-- a page that is covered was seen
pub seen_before : (h : List Happening) (n page : ℕ) → is_covered ((target_at h n).placed page) (target_at h n).frontier ≡ true → IsSeen h n page
seen_before h n page e = go ((target_at h n).placed page) refl (target_at h n).frontier refl e
  where
    go : (o : Option ℕ) → (target_at h n).placed page ≡ o → (f : Option ℕ) → (target_at h n).frontier ≡ f → is_covered o f ≡ true → IsSeen h n page
    go None is f was e = absurd (cc)
    go (Some k) is None was e = absurd (cc)
    go (Some k) is (Some most) was e = record { number = k; placed = placed_before h n page k is; look = most; looked = looked_before h n most was; covers = grind (arith, nat_tests, e) }

-- what a cell has, when something more happens that does not write it
unwritten_more : (h : List Happening) (m n page cell : ℕ) → ((v x : ℕ) → slice_get h n ≡ Some (Did (Write v page cell x)) → ⊥) → IsUnwritten h m n page cell → IsUnwritten h m (suc n) page cell
unwritten_more h m n page cell none un k v x lt gt is = go (cases_lt k n)
  where
    go : (k < n) ⊎ (n ≤ k) → ⊥
    go (inl l) = un k v x lt l is
    go (inr l) = let same : k ≡ n = omega (arith, gt, l) in none v x (subst (λ j. slice_get h j ≡ Some (Did (Write v page cell x))) same is)

just_now : (h : List Happening) (n page cell : ℕ) → IsUnwritten h n (suc n) page cell
just_now h n page cell k v x lt gt is = omega (arith, lt, gt)

-- one happening more, which writes nothing of a cell and does not fill its page
cell_more : (h : List Happening) (n page cell value : ℕ) → ((v x : ℕ) → slice_get h n ≡ Some (Did (Write v page cell x)) → ⊥) → ((base : ℕ) → IsFill h page n cell base → ⊥) →
    IsCell h n page cell value → IsCell h (suc n) page cell value
unfolding longer
cell_more h n page cell value none whole c =
    let lt = c.before in
    record {
      place = c.place;
      before = omega (arith, lt);
      base = c.base;
      fill = c.fill;
      last = λ k other after gt is. filled k other after is (cases_lt k n) gt;
      value_is = go c.value_is;
    }
  where
    filled : (k other : ℕ) → c.place < k → IsFill h page k cell other → (k < n) ⊎ (n ≤ k) → k < suc n → ⊥
    filled k other after is (inl l) gt = c.last k other after l is
    filled k other after is (inr l) gt = let same : k ≡ n = omega (arith, gt, l) in whole other (subst (λ j. IsFill h page j cell other) same is)

    go : IsLastWrite h c.place n page cell value ⊎ (IsUnwritten h c.place n page cell × (value ≡ c.base)) → IsLastWrite h c.place (suc n) page cell value ⊎ (IsUnwritten h c.place (suc n) page cell × (value ≡ c.base))
    go (inl w) = inl (record { vcpu = w.vcpu; write = longer h n _ w.write; after = w.after; last = unwritten_more h w.write.place n page cell none w.last })
    go (inr u) = inr (unwritten_more h c.place n page cell none u.0, u.1)

-- a cell is written now
cell_written : (h : List Happening) (n page cell old value v : ℕ) → slice_get h n ≡ Some (Did (Write v page cell value)) → IsCell h n page cell old → IsCell h (suc n) page cell value
unfolding here
cell_written h n page cell old value v is c =
    let lt = c.before in
    record {
      place = c.place;
      before = omega (arith, lt);
      base = c.base;
      fill = c.fill;
      last = λ k other after gt at. filled k other after at (cases_lt k n) gt;
      value_is = inl (record { vcpu = v; write = here h n _ is; after = lt; last = just_now h n page cell });
    }
  where
    writes : (other : ℕ) → IsFill h page n cell other → ⊥
    writes other (inl p) = let both = sym is ∙ p.there in absurd (cc)
    writes other (inr r) = let both = sym is ∙ r.0.there in absurd (cc)

    filled : (k other : ℕ) → c.place < k → IsFill h page k cell other → (k < n) ⊎ (n ≤ k) → k < suc n → ⊥
    filled k other after at (inl l) gt = c.last k other after l at
    filled k other after at (inr l) gt = let same : k ≡ n = omega (arith, gt, l) in writes other (subst (λ j. IsFill h page j cell other) same at)

-- a page is filled now
cell_filled : (h : List Happening) (n page cell base : ℕ) → IsFill h page n cell base → IsCell h (suc n) page cell base
cell_filled h n page cell base fill = record {
  place = n;
  before = omega arith;
  base = base;
  fill = fill;
  last = λ k other after gt is. absurd (omega (arith, after, gt));
  value_is = inr (just_now h n page cell, refl);
}

-- once it runs at the target, the guest has resumed
runs_before : (h : List Happening) (n : ℕ) → (target_at h n).is_resumed ≡ true → (ready : ℕ) × IsEarlier h n (Did (Resume ready))
runs_before h zero e = absurd (cc)
runs_before h (suc n) e = go (runs_before h n) (slice_get h n) refl e
  where
    Runs : ℕ → Type 0
    Runs m = (ready : ℕ) × IsEarlier h m (Did (Resume ready))

    more : Runs n → Runs (suc n)
    more r = (r.0, longer h n _ r.1)

    go : ((target_at h n).is_resumed ≡ true → Runs n) → (o : Option Happening) → slice_get h n ≡ o → (changed target_after o (target_at h n)).is_resumed ≡ true → Runs (suc n)
    go rec None is e = more (rec e)
    go rec (Some (Did (Read v p c x))) is e = more (rec e)
    go rec (Some (Did (Write v p c x))) is e = more (rec e)
    go rec (Some (Did (Release v p))) is e = more (rec (sym (release_runs v p (target_at h n)) ∙ e))
    go rec (Some (Did (Miss v p))) is e = more (rec e)
    go rec (Some (Did Halt)) is e = more (rec e)
    go rec (Some (Did (Resume k))) is e = (k, here h n _ is)
    go rec (Some (Did (See k))) is e = more (rec e)
    go rec (Some (Placed p k xs)) is e = more (rec e)

-- a release at the target, as it is done
late_release : (h : List Happening) (n v page : ℕ) → slice_get h n ≡ Some (Did (Release v page)) → (target_at h n).is_resumed ≡ true → IsLateRelease h page n
late_release h n v page is runs = let r = runs_before h n runs in record { vcpu = v; there = is; ready = r.0; resumed = r.1 }

both_same : (p page c cell : ℕ) → ((p == page) && (c == cell)) ≡ true → (p ≡ page) × (c ≡ cell)
both_same p page c cell e = (grind (arith, nat_tests, e), grind (arith, nat_tests, e))

-- whether a page is resident
abbrev resident_in : ℕ → Target → Bool
resident_in page t = is_resident (t.placed page) (t.freed page)

-- a page beside the one that is released
beside : (o : Option ℕ) (p page : ℕ) (all : Pages) → (p == page) ≡ false → freed_by p o all page ≡ all page
beside None p page all e = ap (λ t. cond t true (all page)) e
beside (Some k) p page all e = refl

-- the cells of a resident page
pub cell_before : (h : List Happening) (n page cell : ℕ) → resident_in page (target_at h n) ≡ true → IsCell h n page cell ((target_at h n).memory page cell)
cell_before h zero page cell e = absurd (cc)
cell_before h (suc n) page cell e = go (cell_before h n page cell) (slice_get h n) refl e
  where
    t : Target
    t = target_at h n

    Rec : Type 0
    Rec = resident_in page t ≡ true → IsCell h n page cell (t.memory page cell)

    -- what is no placement and no release fills nothing
    fills_not : (x : Happening) → slice_get h n ≡ Some x → ((k : ℕ) (xs : List ℕ) → x ≡ Placed page k xs → ⊥) → ((v : ℕ) → x ≡ Did (Release v page) → ⊥) → (base : ℕ) → IsFill h page n cell base → ⊥
    fills_not x is no_place no_release base (inl p) = let both : Some x ≡ Some (Placed page p.number p.contents) = sym is ∙ p.there in no_place p.number p.contents (cc)
    fills_not x is no_place no_release base (inr r) = let both : Some x ≡ Some (Did (Release r.0.vcpu page)) = sym is ∙ r.0.there in no_release r.0.vcpu (cc)

    written : Rec → (v p c x : ℕ) → slice_get h n ≡ Some (Did (Write v p c x)) → resident_in page t ≡ true → (b : Bool) → ((p == page) && (c == cell)) ≡ b
        → IsCell h (suc n) page cell (if b then x else t.memory page cell)
    written rec v p c x is some true e =
        let same = both_same p page c cell e in
        cell_written h n page cell (t.memory page cell) x v (is ∙ ap (λ q. Some (Did (Write v q c x))) same.0 ∙ ap (λ d. Some (Did (Write v page d x))) same.1) (rec some)
    written rec v p c x is some false e =
        cell_more h n page cell _
        (λ w y at.
        let both : Some (Did (Write v p c x)) ≡ Some (Did (Write w page cell y)) = sym is ∙ at in
        let page_is : p ≡ page = cc in let cell_is : c ≡ cell = cc in absurd (grind (arith, nat_tests, e, page_is, cell_is)))
        (fills_not (Did (Write v p c x)) is (λ k xs same. cc) (λ w same. cc)) (rec some)

    placed_now : Rec → (p k : ℕ) (xs : List ℕ) → slice_get h n ≡ Some (Placed p k xs) → (b : Bool) → (p == page) ≡ b → is_resident (if b then Some k else t.placed page) (t.freed page) ≡ true
        → IsCell h (suc n) page cell (if b then slice_index xs cell else t.memory page cell)
    placed_now rec p k xs is true e some =
        let page_is : p ≡ page = grind (arith, nat_tests, e) in
        cell_filled h n page cell (slice_index xs cell) (inl (record { number = k; contents = xs; there = is ∙ ap (λ q. Some (Placed q k xs)) page_is; value_is = refl }))
    placed_now rec p k xs is false e some =
        cell_more h n page cell _ (λ w y at. let both = sym is ∙ at in absurd (cc))
        (fills_not (Placed p k xs) is (λ j ys same. let page_is : p ≡ page = cc in absurd (grind (arith, nat_tests, e, page_is))) (λ w same. cc)) (rec some)

    released_now : Rec → (v p : ℕ) → slice_get h n ≡ Some (Did (Release v p)) → t.is_resumed ≡ true → (b : Bool) → (p == page) ≡ b → is_resident (t.placed page) (freed_by p (t.placed p) t.freed page) ≡ true
        → IsCell h (suc n) page cell (if b then 0 else t.memory page cell)
    released_now rec v p is runs true e some =
        let page_is : p ≡ page = grind (arith, nat_tests, e) in
        cell_filled h n page cell 0 (inr (late_release h n v page (is ∙ ap (λ q. Some (Did (Release v q))) page_is) runs, refl))
    released_now rec v p is runs false e some =
        cell_more h n page cell _ (λ w y at. let both = sym is ∙ at in absurd (cc))
        (fills_not (Did (Release v p)) is (λ j ys same. cc) (λ w same. let page_is : p ≡ page = cc in absurd (grind (arith, nat_tests, e, page_is))))
        (rec (sym (ap (λ r. is_resident (t.placed page) r) (beside (t.placed p) p page t.freed e)) ∙ some))

    -- before the guest has resumed, a release is none at the target
    released_away : Rec → (v p : ℕ) → slice_get h n ≡ Some (Did (Release v p)) → t.is_resumed ≡ false → resident_in page t ≡ true → IsCell h (suc n) page cell (t.memory page cell)
    released_away rec v p is runs some =
        cell_more h n page cell _ (λ w y at. let both = sym is ∙ at in absurd (cc))
        (λ base fill. early base fill) (rec some)
      where
        early : (base : ℕ) → IsFill h page n cell base → ⊥
        early base (inl q) = let both = sym is ∙ q.there in absurd (cc)
        early base (inr r) = let on = resumed_after h n r.0.resumed.place r.0.ready r.0.resumed.there r.0.resumed.before in absurd (cc)

    released : Rec → (v p : ℕ) → slice_get h n ≡ Some (Did (Release v p)) → (s : Bool) → t.is_resumed ≡ s → resident_in page (cond s (released_at p t) t) ≡ true → IsCell h (suc n) page cell ((cond s (released_at p t) t).memory page cell)
    released rec v p is true runs some = released_now rec v p is runs (p == page) refl some
    released rec v p is false runs some = released_away rec v p is runs some

    other : Rec → (x : Happening) → slice_get h n ≡ Some x → ((w y : ℕ) → x ≡ Did (Write w page cell y) → ⊥) → ((k : ℕ) (xs : List ℕ) → x ≡ Placed page k xs → ⊥) → ((v : ℕ) → x ≡ Did (Release v page) → ⊥) →
        resident_in page t ≡ true → IsCell h (suc n) page cell (t.memory page cell)
    other rec x is unlike no_place no_release some =
        cell_more h n page cell _ (λ w y at. let both : Some x ≡ Some (Did (Write w page cell y)) = sym is ∙ at in unlike w y (cc)) (fills_not x is no_place no_release) (rec some)

    go : Rec → (o : Option Happening) → slice_get h n ≡ o → resident_in page (changed target_after o t) ≡ true → IsCell h (suc n) page cell ((changed target_after o t).memory page cell)
    go rec None is e = cell_more h n page cell _ (λ w y at. let both = sym is ∙ at in absurd (cc)) (λ base fill. nothing base fill) (rec e)
      where
        nothing : (base : ℕ) → IsFill h page n cell base → ⊥
        nothing base (inl q) = let both = sym is ∙ q.there in absurd (cc)
        nothing base (inr r) = let both = sym is ∙ r.0.there in absurd (cc)
    go rec (Some (Did (Read v p c x))) is e = other rec _ is (λ w y same. cc) (λ k xs same. cc) (λ w same. cc) e
    go rec (Some (Did (Write v p c x))) is e = written rec v p c x is e ((p == page) && (c == cell)) refl
    go rec (Some (Did (Release v p))) is e = released rec v p is t.is_resumed refl e
    go rec (Some (Did (Miss v p))) is e = other rec _ is (λ w y same. cc) (λ k xs same. cc) (λ w same. cc) e
    go rec (Some (Did Halt)) is e = other rec _ is (λ w y same. cc) (λ k xs same. cc) (λ w same. cc) e
    go rec (Some (Did (Resume k))) is e = other rec _ is (λ w y same. cc) (λ k xs same. cc) (λ w same. cc) e
    go rec (Some (Did (See k))) is e = other rec _ is (λ w y same. cc) (λ k xs same. cc) (λ w same. cc) e
    go rec (Some (Placed p k xs)) is e = placed_now rec p k xs is (p == page) refl e

-- what is freed was released
pub released_before : (h : List Happening) (n page : ℕ) → (target_at h n).freed page ≡ true → IsReleased h n page
released_before h zero page e = absurd (cc)
released_before h (suc n) page e = go (released_before h n page) (slice_get h n) refl e
  where
    t : Target
    t = target_at h n

    more : IsReleased h n page → IsReleased h (suc n) page
    more r = let lt = r.before in record { place = r.place; before = omega (arith, lt); release = r.release }

    at : (t.freed page ≡ true → IsReleased h n page) → (v p : ℕ) → slice_get h n ≡ Some (Did (Release v p)) → (s : Bool) → t.is_resumed ≡ s → (b : Bool) → (p == page) ≡ b → (cond s (released_at p t) t).freed page ≡ true → IsReleased h (suc n) page
    at rec v p is true runs true same e =
        let page_is : p ≡ page = grind (arith, nat_tests, same) in
        record { place = n; before = omega arith; release = late_release h n v page (is ∙ ap (λ q. Some (Did (Release v q))) page_is) runs }
    at rec v p is true runs false same e = more (rec (sym (beside (t.placed p) p page t.freed same) ∙ e))
    at rec v p is false runs b same e = more (rec e)

    go : (t.freed page ≡ true → IsReleased h n page) → (o : Option Happening) → slice_get h n ≡ o → (changed target_after o t).freed page ≡ true → IsReleased h (suc n) page
    go rec None is e = more (rec e)
    go rec (Some (Did (Read v p c x))) is e = more (rec e)
    go rec (Some (Did (Write v p c x))) is e = more (rec e)
    go rec (Some (Did (Release v p))) is e = at rec v p is t.is_resumed refl (p == page) refl e
    go rec (Some (Did (Miss v p))) is e = more (rec e)
    go rec (Some (Did Halt)) is e = more (rec e)
    go rec (Some (Did (Resume k))) is e = more (rec e)
    go rec (Some (Did (See k))) is e = more (rec e)
    go rec (Some (Placed p k xs)) is e = more (rec e)

freed_more : (o : Option ℕ) (p page : ℕ) (all : Pages) → all page ≡ true → freed_by p o all page ≡ true
freed_more None p page all e = either (p == page)
  where
    either : (s : Bool) → cond s true (all page) ≡ true
    either true = refl
    either false = e
freed_more (Some k) p page all e = e

stays_resident : (o : Option Happening) (t : Target) (page : ℕ) → resident_in page t ≡ true → resident_in page (changed target_after o t) ≡ true
stays_resident None t page e = e
stays_resident (Some (Did (Read v p c x))) t page e = e
stays_resident (Some (Did (Write v p c x))) t page e = e
stays_resident (Some (Did (Release v p))) t page e = go t.is_resumed
  where
    split : (o : Option ℕ) (b : Bool) → b ≡ t.freed page → is_resident o b ≡ true → is_resident o (freed_by p (t.placed p) t.freed page) ≡ true
    split (Some k) b is some = refl
    split None b is some = freed_more (t.placed p) p page t.freed (sym is ∙ some)

    go : (s : Bool) → resident_in page (cond s (released_at p t) t) ≡ true
    go true = split (t.placed page) (t.freed page) refl e
    go false = e
stays_resident (Some (Did (Miss v p))) t page e = e
stays_resident (Some (Did Halt)) t page e = e
stays_resident (Some (Did (Resume k))) t page e = e
stays_resident (Some (Did (See k))) t page e = e
stays_resident (Some (Placed p k xs)) t page e = go (p == page)
  where
    go : (s : Bool) → is_resident (cond s (Some k) (t.placed page)) (t.freed page) ≡ true
    go true = refl
    go false = e

-- once it was released at the target
released_resident : (h : List Happening) (n m page : ℕ) → IsLateRelease h page m → m < n → resident_in page (target_at h n) ≡ true
released_resident h zero m page r lt = absurd (omega (arith, lt))
released_resident h (suc n) m page r lt = go (λ l. released_resident h n m page r l) (cases_lt m n)
  where
    now : (o : Option ℕ) → (target_at h m).placed page ≡ o → resident_in page (released_at page (target_at h m)) ≡ true
    now (Some k) is = ap (λ q. is_resident q (freed_by page ((target_at h m).placed page) (target_at h m).freed page)) is
    now None is =
        ap (λ q. is_resident q (freed_by page ((target_at h m).placed page) (target_at h m).freed page)) is
        ∙ ap (λ q. is_resident None (freed_by page q (target_at h m).freed page)) is
        ∙ itself (page == page) refl
      where
        itself : (s : Bool) → (page == page) ≡ s → cond s true ((target_at h m).freed page) ≡ true
        itself true e = refl
        itself false e = absurd (grind (arith, nat_tests, e))

    here_now : resident_in page (target_at h (suc m)) ≡ true
    here_now =
        ap (λ o. resident_in page (changed target_after o (target_at h m))) r.there
        ∙ ap (λ s. resident_in page (cond s (released_at page (target_at h m)) (target_at h m))) (resumed_after h m r.resumed.place r.ready r.resumed.there r.resumed.before)
        ∙ now ((target_at h m).placed page) refl

    go : (m < n → resident_in page (target_at h n) ≡ true) → (m < n) ⊎ (n ≤ m) → resident_in page (target_at h (suc n)) ≡ true
    go rec (inl l) = stays_resident (slice_get h n) (target_at h n) page (rec l)
    go rec (inr l) = let same : suc m ≡ suc n = omega (arith, lt, l) in subst (λ k. resident_in page (target_at h k) ≡ true) same here_now

-- a covered page was seen or released
own_before : (h : List Happening) (n page : ℕ) → (is_covered ((target_at h n).placed page) (target_at h n).frontier || (target_at h n).freed page) ≡ true → IsOwn h n page
own_before h n page e = go (is_covered ((target_at h n).placed page) (target_at h n).frontier) refl e
  where
    go : (s : Bool) → is_covered ((target_at h n).placed page) (target_at h n).frontier ≡ s → (s || (target_at h n).freed page) ≡ true → IsOwn h n page
    go true is e = inl (seen_before h n page is)
    go false is e = inr (released_before h n page e)

-- what is done after the guest has resumed
pub are_seen : (h : List Happening) → IsHistory h → (n ready : ℕ) (resumed : IsEarlier h n (Did (Resume ready))) → AreSeen h n ready resumed
are_seen h all n ready resumed =
    let runs = resumed_after h n resumed.place ready resumed.there resumed.before in
    record {
      read = λ v page cell value is.
          let met = all n (Did (Read v page cell value)) is runs in (
            own_before h n page met.0,
            subst (λ x. IsCell h n page cell x) (sym met.1) (cell_before h n page cell (covered_resident ((target_at h n).placed page) (target_at h n).frontier ((target_at h n).freed page) met.0)),
          );
      write = λ v page cell value is. own_before h n page (all n (Did (Write v page cell value)) is runs);
      placement = λ page number contents is r.
          let there = released_resident h n r.place page r.release r.before in let absent = all n (Placed page number contents) is in absurd (cc);
    }

pub of_placements : (h : List Happening) → IsHistory h → AreOfPlacements h
of_placements h all n number is = let met = all n (Did (See number)) is in (met.0, placed_before h n met.0 number met.1)

-- no look is above the frontier
look_below : (h : List Happening) (n m k : ℕ) → slice_get h m ≡ Some (Did (See k)) → m < n → (most : ℕ) × ((target_at h n).frontier ≡ Some most) × (k ≤ most)
look_below h zero m k is lt = absurd (omega (arith, lt))
look_below h (suc n) m k is lt = go (λ l. look_below h n m k is l) (cases_lt m n)
  where
    Below : Option ℕ → Type 0
    Below f = (most : ℕ) × (f ≡ Some most) × (k ≤ most)

    higher : (j : ℕ) (f : Option ℕ) → Below f → Below (raised j f)
    higher j None b = absurd (cc)
    higher j (Some f) b = let same : f ≡ b.0 = cc in let le = b.2 in (max f j, refl, omega (arith, same, le))

    itself : (f : Option ℕ) → Below (raised k f)
    itself None = (k, refl, omega arith)
    itself (Some f) = (max f k, refl, omega arith)

    stays : (o : Option Happening) (t : Target) → Below t.frontier → Below (changed target_after o t).frontier
    stays None t b = b
    stays (Some (Did (Read v p c x))) t b = b
    stays (Some (Did (Write v p c x))) t b = b
    stays (Some (Did (Release v p))) t b = subst Below (sym (release_frontier v p t)) b
    stays (Some (Did (Miss v p))) t b = b
    stays (Some (Did Halt)) t b = b
    stays (Some (Did (Resume j))) t b = b
    stays (Some (Did (See j))) t b = higher j t.frontier b
    stays (Some (Placed p j xs)) t b = b

    go : (m < n → Below (target_at h n).frontier) → (m < n) ⊎ (n ≤ m) → Below (target_at h (suc n)).frontier
    go rec (inl l) = stays (slice_get h n) (target_at h n) (rec l)
    go rec (inr l) =
        let same : m ≡ n = omega (arith, lt, l) in
        subst (λ (o : Option Happening). Below (changed target_after o (target_at h n)).frontier) (sym (subst (λ j. slice_get h j ≡ Some (Did (See k))) same is)) (itself (target_at h n).frontier)

frontier_is : (h : List Happening) (f : Option ℕ) → (target_at h (length h)).frontier ≡ f → IsFrontier h f
frontier_is h None is = λ n k at. let b = look_below h (length h) n k at (slice_get_within h n _ at) in let some = b.1 in absurd (cc)
frontier_is h (Some most) is = (
  looked_before h (length h) most is,
  λ n k at.
      let b = look_below h (length h) n k at (slice_get_within h n _ at) in
      let some = b.1 in let same : most ≡ b.0 = cc in let le = b.2 in omega (arith, same, le),
)

same_resident : (b : TargetPart) (h : List Happening) → IsHistoryOf b h → (page : ℕ) → resident_in page (target_at h (length h)) ≡ is_resident (b.placed page) (b.freed page)
same_resident b h was page =
    ap (λ (all : Placements). is_resident (all page) ((target_at h (length h)).freed page)) was.holds.placed
    ∙ ap (λ (all : Pages). is_resident (b.placed page) (all page)) was.holds.freed

-- a book is what its history says
pub of_history : (b : TargetPart) (h : List Happening) → IsHistoryOf b h → IsOfHistory b h
of_history b h was = record {
  log = was.log;
  resident = λ page number is. placed_before h (length h) page number (ap (λ (all : Placements). all page) was.holds.placed ∙ is);
  absent = λ page none n number contents at.
      let there = resident_after h (length h) n page number contents at (slice_get_within h n _ at) in
      let same = ap (λ (all : Placements). all page) was.holds.placed in absurd (cc);
  freed = λ page is. released_before h (length h) page (ap (λ (all : Pages). all page) was.holds.freed ∙ is);
  kept = λ page none r.
      let there = released_resident h (length h) r.place page r.release r.before in
      let same = same_resident b h was page in absurd (cc);
  cells = λ page cell some.
      subst (λ x. IsCell h (length h) page cell x) (was.holds.memory page cell some)
      (cell_before h (length h) page cell (same_resident b h was page ∙ some));
  frontier = frontier_is h b.frontier was.holds.frontier;
}
