-- A fault that is left out comes after one of its page that is kept; and what is clean.
use Rattle.std.proofs.Common.{◌≡◌, ◌↔◌, ℕ, ◌<◌, ◌⊎◌, inl, inr, Bool, true, false, List, Option, Some, None, refl, sym, ap, ◌∙◌, subst, arith, eqb-true, eq-eqb}
use Rattle.std.specs.Prelude.{slice_get}
use Rattle.migration_types.specs.declared.records.LogName.TheVariants.{Guest, Source, Link, Lane, Pager}
use Rattle.migration_types.specs.declared.records.GuestRec.{GuestRec}
use Rattle.migration_types.specs.declared.records.GuestRec.TheVariants.{Read, Write, Release, Miss, Halt, Resume, See}
use Rattle.migration_types.specs.Paged.{guest_page}
use Rattle.migration_types.specs.Receipts.{Name}
use Rattle.migration_types.specs.Sessions.{Recorded}
use Rattle.audit_model.specs.declared.reasons.PageReason.{PageReason}
use Rattle.audit_model.specs.declared.reasons.PageReason.TheVariants.{Read as WrongRead, Early}
use Rattle.audit_model.specs.Names.{if_there}
use Rattle.audit_model.specs.Flat.{flat, freed}
use Rattle.audit_model.specs.Certificates.{is_access_of, is_touch_of}
use Rattle.audit_model.specs.Faults.{IsEarly, GuestFault, if_fault, IsPageFault, HasNoPageFault}
use Rattle.audit_model.specs.Windows.{rank}
use Rattle.audit_model.proofs.Touched.{access_touches, touched_access, freed_by, freed_true}
use Rattle.audit_model.proofs.FirstTouch.{IsFirstTouch, first_touch_at}
use Rattle.page_facts.specs.PageFaults.{page_at, Precedes}
use Rattle.kept_faults.specs.Thinned.{thinned, thin_name, IsKept, IsMisread, MayGo, IsThinning}
use Rattle.kept_faults.specs.ThinLaws.{WasMisread, HasKeptFault, FaultsAreLater}
use Rattle.kept_faults.proofs.Kept.{kept_from, kept_or_gone}
use Rattle.kept_faults.proofs.Misread.{Shows, misread_shows}
use Rattle.kept_faults.proofs.ThinFaults.{false_unless, not_looked_before, used_before, first_is_kept, keeps_faults}

access_page : (q : ℕ) (x : GuestRec) → is_access_of q x ≡ true → guest_page x ≡ Some q
access_page q (Read v p c y) e = ap (λ k. Some k) (eqb-true p q e)
access_page q (Write v p c y) e = ap (λ k. Some k) (eqb-true p q e)
access_page q x e = absurd (cc)

-- a fault of the guest's log is of a page
guest_fault_page : (s : Recorded) (reason : PageReason) (n : ℕ) → IsPageFault s reason (Guest, n) → (page : ℕ) × (page_at s (Guest, n) ≡ Some page)
guest_fault_page s reason n h = go reason (slice_get s.guest n) h
  where
    go : (reason : PageReason) (o : Option GuestRec) → if_fault (GuestFault s reason n) o → (page : ℕ) × (if_there guest_page o ≡ Some page)
    go reason None h = absurd h
    go WrongRead (Some (Read v p c y)) h = (p, refl)
    go WrongRead (Some x) h = absurd h
    go Early (Some x) h = (h.0, access_page h.0 x h.1.is_access)
    go reason (Some x) h = absurd h

module _ (marks : List Bool) (s : Recorded) (thin : IsThinning marks s) where
  misread_is_kept : (n page : ℕ) → IsMisread s n page → HasKeptFault marks s n page
  misread_is_kept n page bad = let f = misread_shows marks s thin (Guest, n) page bad in at f f.is_before
    where
      at : (f : Shows marks s (Guest, n) page) → Precedes (Guest, f.place) (Guest, n) → HasKeptFault marks s n page
      at f (inl lt) = absurd (omega (arith, lt))
      at f (inr before) = record {
        place = f.place;
        reason = WrongRead;
        is_earlier = before.1;
        is_kept = f.is_kept;
        is_of = f.is_of;
        is_fault = f.is_fault;
      }

  -- an early use that goes comes after its page's first use, which is early too
  early_is_kept : (n page : ℕ) (x : GuestRec) → MayGo marks s n x → IsEarly s n x page → HasKeptFault marks s n page
  early_is_kept n page x h early =
      let before = touched_access s n page (used_before marks s thin n page x h (access_touches page x early.is_access) early.is_late) in
      let first = first_touch_at s page before.0 before.2 in
      at first.0 (omega (arith, first.1, before.1)) first.2 first.2.touch.by first.2.touch.stands first.2.touch.is_touch
    where
      by_access : (k : ℕ) → k < n → IsFirstTouch s page k → (y : GuestRec) → slice_get s.guest k ≡ Some y → is_access_of page y ≡ true → HasKeptFault marks s n page
      by_access k lt first y is access = record {
        place = k;
        reason = Early;
        is_earlier = lt;
        is_kept = first_is_kept marks s thin page k first;
        is_of = ap (if_there guest_page) is ∙ access_page page y access;
        is_fault = subst (λ o. if_fault (GuestFault s Early k) o) (sym is) (
          page,
          record {
            is_access = access;
            is_late = first.touch.is_late;
            is_kept = false_unless (freed s k page) (λ f. let by = freed_by s k page f in let le = first.is_first by.0 by.2 in omega (arith, le, by.1));
            is_uncovered = not_looked_before s page k n (omega (arith, lt)) early.is_uncovered;
          },
        );
      }

      at : (k : ℕ) → k < n → IsFirstTouch s page k → (y : GuestRec) → slice_get s.guest k ≡ Some y → is_touch_of page y ≡ true → HasKeptFault marks s n page
      at k lt first (Read v p c y) is e = by_access k lt first (Read v p c y) is e
      at k lt first (Write v p c y) is e = by_access k lt first (Write v p c y) is e
      at k lt first (Release v p) is e =
          let same = eqb-true p page e in
          let f = freed_true s k n v page (is ∙ ap (λ q. Some (Release v q)) same) first.touch.is_late (eq-eqb page page refl) lt in
          let g = early.is_kept in
          absurd (cc)
      at k lt first (Miss v p) is e = absurd (cc)
      at k lt first Halt is e = absurd (cc)
      at k lt first (Resume i) is e = absurd (cc)
      at k lt first (See i) is e = absurd (cc)

  pub faults_are_later : FaultsAreLater marks s
  faults_are_later reason n page gone mine fault = go reason (slice_get s.guest n) refl mine fault
    where
      early : (x : GuestRec) (q : ℕ) → MayGo marks s n x → IsEarly s n x q → guest_page x ≡ Some page → HasKeptFault marks s n page
      early x q h e mine =
          let f : Some q ≡ Some page = sym (access_page q x e.is_access) ∙ mine in
          let same : q ≡ page = cc in
          subst (λ p. HasKeptFault marks s n p) same (early_is_kept n q x h e)

      wrong : (v p c y : ℕ) → MayGo marks s n (Read v p c y) → (y ≡ flat s n p c → ⊥) → Some p ≡ Some page → HasKeptFault marks s n page
      wrong v p c y h differs mine = at h.1
        where
          at : (y ≡ flat s n p c) ⊎ IsMisread s n p → HasKeptFault marks s n page
          at (inl e) = absurd (differs e)
          at (inr before) = let same : p ≡ page = cc in subst (λ q. HasKeptFault marks s n q) same (misread_is_kept n p before)

      go : (reason : PageReason) (o : Option GuestRec) → slice_get s.guest n ≡ o → if_there guest_page o ≡ Some page → if_fault (GuestFault s reason n) o → HasKeptFault marks s n page
      go reason None is mine h = absurd h
      go WrongRead (Some (Read v p c y)) is mine h = wrong v p c y (thin.may_go n (Read v p c y) is gone) h mine
      go WrongRead (Some x) is mine h = absurd h
      go Early (Some x) is mine h = early x h.0 (thin.may_go n x is gone) h.1 mine
      go reason (Some x) is mine h = absurd h

  -- a fault with thinned logs is at a record that was kept
  fault_from : (reason : PageReason) (name : Name) → IsPageFault (thinned marks s) reason name → (old : Name) × IsKept marks old × (thin_name marks old ≡ name)
  fault_from reason (Guest, m) h = go (slice_get (thinned marks s).guest m) refl h
    where
      go : (o : Option GuestRec) → slice_get (thinned marks s).guest m ≡ o → if_fault (GuestFault (thinned marks s) reason m) o → (old : Name) × IsKept marks old × (thin_name marks old ≡ (Guest, m))
      go None is h = absurd h
      go (Some x) is h = let f = kept_from marks s.guest m x is in ((Guest, f.0), f.2, ap (λ k. (Guest, k)) f.3)
  fault_from reason (Source, m) h = ((Source, m), tt, refl)
  fault_from reason (Link, m) h = absurd h
  fault_from reason (Lane, m) h = absurd h
  fault_from reason (Pager, m) h = ((Pager, m), tt, refl)

  clean_to : HasNoPageFault s → HasNoPageFault (thinned marks s)
  clean_to clean reason name fault =
      let old = fault_from reason name fault in
      let free : WasMisread s old.0 → ⊥ = λ was. let f = misread_shows marks s thin old.0 was.page was.is_misread in clean WrongRead (Guest, f.place) f.is_fault in
      clean reason old.0 ((keeps_faults marks s thin reason old.0 old.1 free).1 (subst (λ k. IsPageFault (thinned marks s) reason k) (sym old.2) fault))

  -- where thinned logs are clean, no page was misread
  none_misread : HasNoPageFault (thinned marks s) → (name : Name) → WasMisread s name → ⊥
  none_misread clean name was = let f = misread_shows marks s thin name was.page was.is_misread in clean WrongRead (Guest, rank marks f.place) f.is_thin_fault

  clean_from : HasNoPageFault (thinned marks s) → HasNoPageFault s
  clean_from clean reason (Guest, n) fault = go (slice_get s.guest n) refl
    where
      by_kept : (r : PageReason) (k : ℕ) → slice_get marks k ≡ Some true → IsPageFault s r (Guest, k) → ⊥
      by_kept r k mark f = clean r (Guest, rank marks k) ((keeps_faults marks s thin r (Guest, k) mark (none_misread clean (Guest, k))).0 f)

      by_mark : (slice_get marks n ≡ Some true) ⊎ (slice_get marks n ≡ Some false) → ⊥
      by_mark (inl mark) = by_kept reason n mark fault
      by_mark (inr gone) =
          let page = guest_fault_page s reason n fault in
          let f = faults_are_later reason n page.0 gone page.1 fault in
          by_kept f.reason f.place f.is_kept f.is_fault

      go : (o : Option GuestRec) → slice_get s.guest n ≡ o → ⊥
      go None is = subst (λ o. if_fault (GuestFault s reason n) o) is fault
      go (Some x) is = by_mark (kept_or_gone marks s thin n x is)
  clean_from clean reason (Source, n) fault = clean reason (Source, n) ((keeps_faults marks s thin reason (Source, n) tt (none_misread clean (Source, n))).0 fault)
  clean_from clean reason (Link, n) fault = fault
  clean_from clean reason (Lane, n) fault = fault
  clean_from clean reason (Pager, n) fault = clean reason (Pager, n) ((keeps_faults marks s thin reason (Pager, n) tt (none_misread clean (Pager, n))).0 fault)

  pub same_clean : HasNoPageFault s ↔ HasNoPageFault (thinned marks s)
  same_clean = (clean_to, clean_from)
