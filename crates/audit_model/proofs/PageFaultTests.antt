-- The tests for faults of pages tell these faults.
use Rattle.std.proofs.Common.{◌≡◌, ℕ, zero, suc, ◌<◌, ◌≤◌, ◌⊎◌, inl, inr, Bool, true, false, not, ◌==◌, ◌&&◌, length, Option, Some, None, refl, sym, ap, ◌∙◌, subst, arith, eqb-true, eq-eqb}
use Rattle.std.specs.Prelude.{slice_get, IsTrue, ◌↔◌}
use Rattle.std.specs.Bool.{Decides}
use Rattle.std.proofs.lemmas.Bool.{and_from, and_parts, or_cases, or_left, or_right, cases_lt}
use Rattle.std.proofs.lemmas.Bool.Decides.{Decides-eqb, Decides-not}
use Rattle.std.proofs.lemmas.Option.{slice_get_within}
use Rattle.std.proofs.lemmas.Slice.Eq.{bytes_eq-Decides}
use Rattle.migration_types.specs.declared.records.LogName.TheVariants.{Guest, Source, Link, Lane, Pager}
use Rattle.migration_types.specs.declared.records.GuestRec.{GuestRec}
use Rattle.migration_types.specs.declared.records.GuestRec.TheVariants.{Read, Write, Release, Miss, Halt, Resume, See}
use Rattle.migration_types.specs.declared.records.SourceRec.{SourceRec}
use Rattle.migration_types.specs.declared.records.SourceRec.TheVariants.{Send}
use Rattle.migration_types.specs.declared.records.PagerRec.{PagerRec}
use Rattle.migration_types.specs.declared.records.PagerRec.TheVariants.{Place, Zero}
use Rattle.migration_types.specs.Memory.{page_of}
use Rattle.migration_types.specs.Receipts.{Name}
use Rattle.migration_types.specs.Sessions.{Recorded}
use Rattle.audit_model.specs.declared.reasons.PageReason.{PageReason}
use Rattle.audit_model.specs.declared.reasons.PageReason.TheVariants.{Read as WrongRead, Early, Given, Stale, Twice, Altered, Unfit, Over}
use Rattle.audit_model.specs.Flat.{flat, freed, in_ledger, Home, AtSource, Nowhere, AtTarget, home, is_target, at_halt}
use Rattle.audit_model.specs.Shape.{passes, is_placement_of, earlier}
use Rattle.audit_model.specs.Certificates.{is_access_of, IsLateTouch}
use Rattle.audit_model.specs.Worlds.{touched}
use Rattle.audit_model.specs.Faults.{has_looked, IsEarly, IsOver, GuestFault, SourceFault, PagerFault, if_fault, IsPageFault}
use Rattle.audit_model.proofs.Touched.{touched_access, touched_true}
use Rattle.audit_model.specs.inner.PageFaultTests.{is_early_of, is_uncovered, is_wrong_read, is_early, is_given, is_stale, is_second, is_altered, is_unfit, is_first_release, some_release, is_over_of, is_over, fault_test}

never : {P : Type 0} → (P → ⊥) → Decides false P
never f = (λ e. absurd (cc), λ p. absurd (f p))

at_target : (h : Home) → is_target h ≡ true → h ≡ AtTarget
at_target AtTarget e = refl
at_target AtSource e = absurd (cc)
at_target Nowhere e = absurd (cc)

pub not_true : (b : Bool) → Decides (not b) (b ≡ false)
not_true true = (λ e. absurd (cc), λ e. absurd (cc))
not_true false = (λ e. refl, λ e. refl)

is_true : (b : Bool) → Decides b (b ≡ true)
is_true b = (λ e. e, λ e. e)

none : {A : Type 0} {fault : A → Type 0} (o : Option A) → ((x : A) → fault x → ⊥) → if_fault fault o → ⊥
none None never f = f
none (Some x) never f = never x f

-- an access of a page
uncovered : (s : Recorded) (n p : ℕ) (r : GuestRec) → ((q : ℕ) → is_access_of q r ≡ (p == q)) → Decides (is_early_of s p n) ((page : ℕ) × IsEarly s n r page)
uncovered s n p r of = (
  λ e.
      let all = and_parts (not (freed s n p)) (is_uncovered s p n) e in
      let parts = and_parts (is_target (home s n)) (not (has_looked s p n)) all.1 in
      (p, record { is_access = of p ∙ eq-eqb p p refl; is_late = at_target (home s n) parts.0; is_kept = (not_true (freed s n p)).0 all.0; is_uncovered = (not_true (has_looked s p n)).0 parts.1 }),
  λ f.
      let same : p ≡ f.0 = eqb-true p f.0 (sym (of f.0) ∙ f.1.is_access) in
      and_from (not (freed s n p)) (is_uncovered s p n) ((not_true (freed s n p)).1 (ap (λ k. freed s n k) same ∙ f.1.is_kept))
      (and_from (is_target (home s n)) (not (has_looked s p n)) (ap is_target f.1.is_late) ((not_true (has_looked s p n)).1 (ap (λ k. has_looked s k n) same ∙ f.1.is_uncovered))),
)

no_access : (s : Recorded) (n : ℕ) (r : GuestRec) → ((q : ℕ) → is_access_of q r ≡ false) → ((page : ℕ) × IsEarly s n r page) → ⊥
no_access s n r of f = let e = f.1.is_access in let g = of f.0 in cc

-- a release that is the page's first touch after handover and is not covered
release_is : (s : Recorded) (page n : ℕ) (r : GuestRec) → is_first_release s page n r ≡ true → (vcpu : ℕ) × (r ≡ Release vcpu page) × (touched s n page ≡ false) × (home s n ≡ AtTarget) × (has_looked s page n ≡ false)
release_is s page n (Release v p) e =
    let all = and_parts (p == page) (not (touched s n page) && is_uncovered s page n) e in
    let rest = and_parts (not (touched s n page)) (is_uncovered s page n) all.1 in
    let parts = and_parts (is_target (home s n)) (not (has_looked s page n)) rest.1 in
    (v, ap (λ k. Release v k) (eqb-true p page all.0), (not_true (touched s n page)).0 rest.0, at_target (home s n) parts.0, (not_true (has_looked s page n)).0 parts.1)
release_is s page n (Read v p c x) e = absurd (cc)
release_is s page n (Write v p c x) e = absurd (cc)
release_is s page n (Miss v p) e = absurd (cc)
release_is s page n Halt e = absurd (cc)
release_is s page n (Resume k) e = absurd (cc)
release_is s page n (See k) e = absurd (cc)

release_found : (s : Recorded) (page n : ℕ) → some_release s page n ≡ true → IsOver s page
release_found s page zero e = absurd (cc)
release_found s page (suc n) e = go (λ f. release_found s page n f) (slice_get s.guest n) refl (or_cases _ _ e)
  where
    at : (r : GuestRec) → slice_get s.guest n ≡ Some r → is_first_release s page n r ≡ true → IsOver s page
    at r is e =
        let f = release_is s page n r e in
        record { release = n; vcpu = f.0; stands = is ∙ ap (λ t. Some t) f.1; is_late = f.3; is_first = λ m late. at_least m late (cases_lt m n); is_uncovered = f.4 }
      where
        at_least : (m : ℕ) → IsLateTouch s page m → (m < n) ⊎ (n ≤ m) → n ≤ m
        at_least m late (inl less) =
            let g = touched_true s m n page late less in
            let h = (release_is s page n r e).2 in
            absurd (cc)
        at_least m late (inr more) = more

    go : (some_release s page n ≡ true → IsOver s page) → (o : Option GuestRec) → slice_get s.guest n ≡ o → (passes (is_first_release s page n) o ≡ true) ⊎ (some_release s page n ≡ true) → IsOver s page
    go rec o is (inr e) = rec e
    go rec None is (inl e) = absurd (cc)
    go rec (Some r) is (inl e) = at r is e

release_there : (s : Recorded) (page : ℕ) (over : IsOver s page) (n : ℕ) → over.release < n → some_release s page n ≡ true
release_there s page over zero lt = absurd (omega arith)
release_there s page over (suc n) lt = go (λ less. release_there s page over n less) (cases_lt over.release n)
  where
    untouched : touched s over.release page ≡ false
    untouched = by (touched s over.release page) refl
      where
        by : (b : Bool) → touched s over.release page ≡ b → b ≡ false
        by false e = refl
        by true e = let t = touched_access s over.release page e in absurd (omega (arith, t.1, over.is_first t.0 t.2))

    here : is_first_release s page over.release (Release over.vcpu page) ≡ true
    here =
        and_from (page == page) _ (eq-eqb page page refl)
        (and_from (not (touched s over.release page)) _ ((not_true _).1 untouched)
        (and_from (is_target (home s over.release)) _ (ap is_target over.is_late) ((not_true _).1 over.is_uncovered)))

    go : (over.release < n → some_release s page n ≡ true) → (over.release < n) ⊎ (n ≤ over.release) → some_release s page (suc n) ≡ true
    go rec (inl less) = or_right _ _ (rec less)
    go rec (inr more) =
        let same : over.release ≡ n = omega arith in
        or_left _ _ (subst (λ k. passes (is_first_release s page k) (slice_get s.guest k) ≡ true) same (ap (λ o. passes (is_first_release s page over.release) o) over.stands ∙ here))

over_Decides : (s : Recorded) (n p : ℕ) → Decides (is_over_of s p n) ((earlier (is_placement_of p) s.pager n ≡ false) × IsOver s p)
over_Decides s n p = (
  λ e.
      let parts = and_parts (not (earlier (is_placement_of p) s.pager n)) (some_release s p (length s.guest)) e in
      ((not_true _).0 parts.0, release_found s p (length s.guest) parts.1),
  λ f. and_from (not (earlier (is_placement_of p) s.pager n)) _ ((not_true _).1 f.0) (release_there s p f.1 (length s.guest) (slice_get_within s.guest f.1.release _ f.1.stands)),
)

-- no record of the link or of the lane has a fault
of_links : (s : Recorded) (n : ℕ) (reason : PageReason) → Decides (fault_test s reason (Link, n)) ⊥ × Decides (fault_test s reason (Lane, n)) ⊥
of_links s n WrongRead = (never (λ f. f), never (λ f. f))
of_links s n Early = (never (λ f. f), never (λ f. f))
of_links s n Given = (never (λ f. f), never (λ f. f))
of_links s n Stale = (never (λ f. f), never (λ f. f))
of_links s n Twice = (never (λ f. f), never (λ f. f))
of_links s n Altered = (never (λ f. f), never (λ f. f))
of_links s n Unfit = (never (λ f. f), never (λ f. f))
of_links s n Over = (never (λ f. f), never (λ f. f))

pub fault_Decides : (s : Recorded) (reason : PageReason) (name : Name) → Decides (fault_test s reason name) (IsPageFault s reason name)
fault_Decides s WrongRead (Guest, n) = go (slice_get s.guest n)
  where
    go : (o : Option GuestRec) → Decides (passes (is_wrong_read s n) o) (if_fault (GuestFault s WrongRead n) o)
    go None = never (λ f. f)
    go (Some (Read v p c x)) = Decides-not (x == flat s n p c) (Decides-eqb x (flat s n p c))
    go (Some r) = never (λ f. f)
fault_Decides s Early (Guest, n) = go (slice_get s.guest n)
  where
    go : (o : Option GuestRec) → Decides (passes (is_early s n) o) (if_fault (GuestFault s Early n) o)
    go None = never (λ f. f)
    go (Some (Read v p c x)) = uncovered s n p (Read v p c x) (λ q. refl)
    go (Some (Write v p c x)) = uncovered s n p (Write v p c x) (λ q. refl)
    go (Some r) = never (no_access s n r (λ q. refl))
fault_Decides s Given (Source, n) = go (slice_get s.source n)
  where
    go : (o : Option SourceRec) → Decides (passes (is_given s) o) (if_fault (SourceFault s Given) o)
    go None = never (λ f. f)
    go (Some (Send p content)) = is_true (in_ledger s (at_halt s) p)
    go (Some r) = never (λ f. f)
fault_Decides s Stale (Source, n) = go (slice_get s.source n)
  where
    go : (o : Option SourceRec) → Decides (passes (is_stale s) o) (if_fault (SourceFault s Stale) o)
    go None = never (λ f. f)
    go (Some (Send p content)) = Decides-not _ (bytes_eq-Decides content (page_of s.geometry.cells (flat s (at_halt s)) p))
    go (Some r) = never (λ f. f)
fault_Decides s Twice (Pager, n) = go (slice_get s.pager n)
  where
    go : (o : Option PagerRec) → Decides (passes (is_second s n) o) (if_fault (PagerFault s Twice n) o)
    go None = never (λ f. f)
    go (Some (Place p got content)) = is_true _
    go (Some (Zero p)) = is_true _
    go (Some r) = never (λ f. f)
fault_Decides s Altered (Pager, n) = go (slice_get s.pager n)
  where
    go : (o : Option PagerRec) → Decides (passes (is_altered s) o) (if_fault (PagerFault s Altered n) o)
    go None = never (λ f. f)
    go (Some (Place p got content)) = Decides-not _ (bytes_eq-Decides content (page_of s.geometry.cells (flat s (at_halt s)) p))
    go (Some r) = never (λ f. f)
fault_Decides s Unfit (Pager, n) = go (slice_get s.pager n)
  where
    go : (o : Option PagerRec) → Decides (passes (is_unfit s) o) (if_fault (PagerFault s Unfit n) o)
    go None = never (λ f. f)
    go (Some (Zero p)) = not_true (in_ledger s (at_halt s) p)
    go (Some r) = never (λ f. f)
fault_Decides s Over (Pager, n) = go (slice_get s.pager n)
  where
    go : (o : Option PagerRec) → Decides (passes (is_over s n) o) (if_fault (PagerFault s Over n) o)
    go None = never (λ f. f)
    go (Some (Place p got content)) = over_Decides s n p
    go (Some (Zero p)) = over_Decides s n p
    go (Some r) = never (λ f. f)
fault_Decides s reason (Guest, n) = never (λ f. none (slice_get s.guest n) (λ r g. g) f)
fault_Decides s reason (Source, n) = never (λ f. none (slice_get s.source n) (λ r g. g) f)
fault_Decides s reason (Link, n) = (of_links s n reason).0
fault_Decides s reason (Lane, n) = (of_links s n reason).1
fault_Decides s reason (Pager, n) = never (λ f. none (slice_get s.pager n) (λ r g. g) f)

-- what a test tells
pub told : {P : Type 0} (b test : Bool) → b ≡ test → Decides test P → IsTrue b ↔ P
told b test same decides = (λ e. decides.0 (sym same ∙ e), λ p. same ∙ decides.1 p)
