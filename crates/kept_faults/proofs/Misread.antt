-- The first read of a page that gives another value than one machine that never moved would: it is kept, and a fault with
-- thinned logs too.
use Rattle.std.proofs.Common.{◌≡◌, ◌≢◌, ℕ, zero, suc, ◌<◌, ◌≤◌, ◌⊎◌, inl, inr, ◌==◌, Bool, true, false, List, Option, Some, None, refl, sym, ap, ◌∙◌, subst, arith, eqb-true, eq-eqb}
use Rattle.std.specs.Prelude.{slice_get}
use Rattle.std.proofs.lemmas.Bool.{cases_lt}
use Rattle.migration_types.specs.declared.records.LogName.TheVariants.{Guest, Source, Link, Lane, Pager}
use Rattle.migration_types.specs.declared.records.GuestRec.{GuestRec}
use Rattle.migration_types.specs.declared.records.GuestRec.TheVariants.{Read}
use Rattle.migration_types.specs.Paged.{guest_page}
use Rattle.migration_types.specs.Receipts.{Name}
use Rattle.migration_types.specs.Sessions.{Recorded}
use Rattle.audit_model.specs.declared.reasons.PageReason.TheVariants.{Read as WrongRead}
use Rattle.audit_model.specs.Names.{if_there}
use Rattle.audit_model.specs.Flat.{flat}
use Rattle.audit_model.specs.Faults.{GuestFault, if_fault, IsPageFault}
use Rattle.audit_model.specs.Windows.{rank}
use Rattle.page_facts.specs.PageFaults.{page_at, Precedes}
use Rattle.kept_faults.specs.Thinned.{thinned, IsMisread, MayGo, IsThinning}
use Rattle.kept_faults.specs.ThinLaws.{IsMisreadBefore, WasMisread}
use Rattle.kept_faults.proofs.ThinFaults.{keeps_faults}
use Rattle.kept_faults.proofs.Kept.{must_stay}

-- guest record k is the page's first misread
record IsFirstMisread (s : Recorded) (page k : ℕ) : Type 0 where
  pub vcpu : ℕ
  pub cell : ℕ
  pub value : ℕ
  pub stands : slice_get s.guest k ≡ Some (Read vcpu page cell value)
  pub is_wrong : value ≢ flat s k page cell
  pub is_first : IsMisread s k page → ⊥

not_here : (s : Recorded) (page n : ℕ) → (IsMisread s n page → ⊥) → ((v c y : ℕ) → slice_get s.guest n ≡ Some (Read v page c y) → y ≢ flat s n page c → ⊥) → IsMisread s (suc n) page → ⊥
not_here s page n none right bad = go (cases_lt bad.place n)
  where
    go : (bad.place < n) ⊎ (n ≤ bad.place) → ⊥
    go (inl lt) = none (record {
      place = bad.place;
      vcpu = bad.vcpu;
      cell = bad.cell;
      value = bad.value;
      is_earlier = lt;
      stands = bad.stands;
      is_wrong = bad.is_wrong;
    })
    go (inr le) =
        let lt = bad.is_earlier in
        let same : bad.place ≡ n = omega (arith, le, lt) in
        right bad.vcpu bad.cell bad.value (subst (λ k. slice_get s.guest k ≡ Some (Read bad.vcpu page bad.cell bad.value)) same bad.stands) (subst (λ k. bad.value ≢ flat s k page bad.cell) same bad.is_wrong)

-- it stands before guest record n, or the page was not misread before it
first_misread : (s : Recorded) (page n : ℕ) → ((k : ℕ) × (k < n) × IsFirstMisread s page k) ⊎ (IsMisread s n page → ⊥)
first_misread s page zero = inr (λ bad. let lt = bad.is_earlier in omega (arith, lt))
first_misread s page (suc n) = go (first_misread s page n)
  where
    Found : Type 0
    Found = ((k : ℕ) × (k < suc n) × IsFirstMisread s page k) ⊎ (IsMisread s (suc n) page → ⊥)

    by : (IsMisread s n page → ⊥) → (v p c y : ℕ) → slice_get s.guest n ≡ Some (Read v p c y) → (a : Bool) → (p == page) ≡ a → (b : Bool) → (y == flat s n p c) ≡ b → Found
    by none v p c y is true e false f =
        let same = eqb-true p page e in
        inl (
          n,
          omega arith,
          record {
            vcpu = v;
            cell = c;
            value = y;
            stands = is ∙ ap (λ q. Some (Read v q c y)) same;
            is_wrong = λ g. let h = eq-eqb y (flat s n p c) (g ∙ ap (λ q. flat s n q c) (sym same)) in cc;
            is_first = none;
          },
        )
    by none v p c y is true e true f = inr (not_here s page n none (λ w d z at wrong.
        let h : Some (Read v p c y) ≡ Some (Read w page d z) = sym is ∙ at in
        let cells : c ≡ d = cc in
        let values : y ≡ z = cc in
        wrong (sym values ∙ eqb-true y (flat s n p c) f ∙ ap (λ q. flat s n q c) (eqb-true p page e) ∙ ap (flat s n page) cells)))
    by none v p c y is false e b f = inr (not_here s page n none (λ w d z at wrong.
        let h : Some (Read v p c y) ≡ Some (Read w page d z) = sym is ∙ at in
        let pages : p ≡ page = cc in
        let g = eq-eqb p page pages in
        cc))

    at : (IsMisread s n page → ⊥) → (o : Option GuestRec) → slice_get s.guest n ≡ o → Found
    at none (Some (Read v p c y)) is = by none v p c y is (p == page) refl (y == flat s n p c) refl
    at none None is = inr (not_here s page n none (λ w d z here wrong. let h : None ≡ Some (Read w page d z) = sym is ∙ here in absurd (cc)))
    at none (Some x) is = inr (not_here s page n none (λ w d z here wrong. let h : Some x ≡ Some (Read w page d z) = sym is ∙ here in absurd (cc)))

    go : ((k : ℕ) × (k < n) × IsFirstMisread s page k) ⊎ (IsMisread s n page → ⊥) → Found
    go (inl found) = let lt = found.1 in inl (found.0, omega (arith, lt), found.2)
    go (inr none) = at none (slice_get s.guest n) refl

-- a misread of the page before the record with this name shows with thinned logs too
pub record Shows (marks : List Bool) (s : Recorded) (name : Name) (page : ℕ) : Type 0 where
  pub place : ℕ
  pub is_before : Precedes (Guest, place) name
  pub is_kept : slice_get marks place ≡ Some true
  pub is_free : WasMisread s (Guest, place) → ⊥
  pub is_of : page_at s (Guest, place) ≡ Some page
  pub is_fault : IsPageFault s WrongRead (Guest, place)
  pub is_thin_fault : IsPageFault (thinned marks s) WrongRead (Guest, rank marks place)

module _ (marks : List Bool) (s : Recorded) (thin : IsThinning marks s) where
  shows_at : (name : Name) (page k : ℕ) → Precedes (Guest, k) name → IsFirstMisread s page k → Shows marks s name page
  shows_at name page k before first = record {
    place = k;
    is_before = before;
    is_kept = kept;
    is_free = free;
    is_of = mine;
    is_fault = fault;
    is_thin_fault = (keeps_faults marks s thin WrongRead (Guest, k) kept free).0 fault;
  }
    where
      mine : page_at s (Guest, k) ≡ Some page
      mine = ap (if_there guest_page) first.stands

      stays : MayGo marks s k (Read first.vcpu page first.cell first.value) → ⊥
      stays h = go h.1
        where
          go : (first.value ≡ flat s k page first.cell) ⊎ IsMisread s k page → ⊥
          go (inl e) = first.is_wrong e
          go (inr bad) = first.is_first bad

      kept : slice_get marks k ≡ Some true
      kept = must_stay marks s thin k (Read first.vcpu page first.cell first.value) first.stands stays

      free : WasMisread s (Guest, k) → ⊥
      free was =
          let e : Some was.page ≡ Some page = sym was.is_of ∙ mine in
          let same : was.page ≡ page = cc in
          first.is_first (subst (λ q. IsMisread s k q) same was.is_misread)

      fault : IsPageFault s WrongRead (Guest, k)
      fault = subst (λ o. if_fault (GuestFault s WrongRead k) o) (sym first.stands) first.is_wrong

  found : (name : Name) (page n : ℕ) → ((k : ℕ) → k < n → Precedes (Guest, k) name) → IsMisread s n page → Shows marks s name page
  found name page n before bad = go (first_misread s page n)
    where
      go : ((k : ℕ) × (k < n) × IsFirstMisread s page k) ⊎ (IsMisread s n page → ⊥) → Shows marks s name page
      go (inl first) = shows_at name page first.0 (before first.0 first.1) first.2
      go (inr none) = absurd (none bad)

  pub misread_shows : (name : Name) (page : ℕ) → IsMisreadBefore s name page → Shows marks s name page
  misread_shows (Guest, n) page bad = found (Guest, n) page n (λ k lt. inr (refl, lt)) bad
  misread_shows (Source, n) page bad = found (Source, n) page _ (λ k lt. inl (omega arith)) bad
  misread_shows (Link, n) page bad = found (Link, n) page _ (λ k lt. inl (omega arith)) bad
  misread_shows (Lane, n) page bad = found (Lane, n) page _ (λ k lt. inl (omega arith)) bad
  misread_shows (Pager, n) page bad = found (Pager, n) page _ (λ k lt. inl (omega arith)) bad
