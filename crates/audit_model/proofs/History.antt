-- What the guest's log says before each of its records, in a session of the right shape.
use Rattle.std.proofs.Common.{◌≡◌, ◌≢◌, ℕ, zero, suc, ◌<◌, ◌≤◌, ◌⊎◌, inl, inr, Bool, true, false, not, ◌&&◌, ◌||◌, List, [], ◌∷◌, Option, Some, None, refl, sym, ap, ◌∙◌, subst, arith}
use Rattle.std.specs.Prelude.{slice_get}
use Rattle.std.proofs.lemmas.Bool.{cases_lt, and_parts}
use Rattle.migration_types.specs.declared.records.LogName.TheVariants.{Guest}
use Rattle.migration_types.specs.declared.records.GuestRec.{GuestRec}
use Rattle.migration_types.specs.declared.records.GuestRec.TheVariants.{Read, Write, Release, Miss, Halt, Resume, See}
use Rattle.migration_types.specs.Sessions.{Recorded}
use Rattle.audit_model.specs.Flat.{changed, before, Home, AtSource, Nowhere, AtTarget, home_after, home, halt_place, at_halt}
use Rattle.migration_types.specs.declared.version.Version.{Version}
use Rattle.migration_types.specs.declared.version.Version.TheVariants.{One, Two}
use Rattle.audit_model.specs.Shape.{is_halt, is_resume, earlier, may_release, in_phase, keeps, IsRightShape}
use Rattle.audit_model.specs.declared.reasons.ShapeReason.TheVariants.{Phases}

-- one more record
pub before_next : {A B : Type 0} (change : A → B → B) (start : B) (log : List A) (n : ℕ) (r : A) → slice_get log n ≡ Some r → before change start log (suc n) ≡ change r (before change start log n)
before_next change start log n r e = ap (λ o. changed change o (before change start log n)) e

pub earlier_true : {A : Type 0} (test : A → Bool) (log : List A) (m n : ℕ) (r : A) → slice_get log m ≡ Some r → test r ≡ true → m < n → earlier test log n ≡ true
earlier_true test log m zero r is passes lt = absurd (omega arith)
earlier_true test log m (suc n) r is passes lt = go (λ l. earlier_true test log m n r is passes l) (cases_lt m n)
  where
    kept : (o : Option _) → earlier test log n ≡ true → changed (λ x found. test x || found) o (earlier test log n) ≡ true
    kept None e = e
    kept (Some x) e = grind arith

    go : (m < n → earlier test log n ≡ true) → (m < n) ⊎ (n ≤ m) → earlier test log (suc n) ≡ true
    go rec (inl l) = kept (slice_get log n) (rec l)
    go rec (inr l) = let same : m ≡ n = omega arith in before_next (λ x found. test x || found) false log n r (subst (λ k. slice_get log k ≡ Some r) same is) ∙ ap (λ b. b || earlier test log n) passes

-- the earlier record that passes
pub earlier_witness : {A : Type 0} (test : A → Bool) (log : List A) (n : ℕ) → earlier test log n ≡ true → (m : ℕ) × (r : A) × (m < n) × (slice_get log m ≡ Some r) × (test r ≡ true)
earlier_witness test log zero e = absurd (cc)
earlier_witness {A} test log (suc n) e = go (λ e. let r = earlier_witness test log n e in (r.0, r.1, omega (arith, r.2), r.3, r.4)) (slice_get log n) refl e
  where
    at : (r : A) → slice_get log n ≡ Some r → (b : Bool) → test r ≡ b → (earlier test log n ≡ true → (m : ℕ) × (r : A) × (m < suc n) × (slice_get log m ≡ Some r) × (test r ≡ true)) → (b || earlier test log n) ≡ true → (m : ℕ) × (r : A) × (m < suc n) × (slice_get log m ≡ Some r) × (test r ≡ true)
    at r is true passes rec e = (n, r, omega arith, is, passes)
    at r is false passes rec e = rec e

    go : (earlier test log n ≡ true → (m : ℕ) × (r : A) × (m < suc n) × (slice_get log m ≡ Some r) × (test r ≡ true)) → (o : Option A) → slice_get log n ≡ o → changed (λ x found. test x || found) o (earlier test log n) ≡ true → (m : ℕ) × (r : A) × (m < suc n) × (slice_get log m ≡ Some r) × (test r ≡ true)
    go rec None is e = rec e
    go rec (Some r) is e = at r is (test r) refl rec e

-- where the guest is, by what came before
abbrev home_of : Bool → Bool → Home
home_of true halted = AtTarget
home_of false true = Nowhere
home_of false false = AtSource

halt_first : (log : List GuestRec) (n : ℕ) → slice_get log n ≡ Some Halt → (slice_get log (halt_place log) ≡ Some Halt) × (halt_place log ≤ n)
halt_first [] n e = absurd (cc)
halt_first (Halt ∷ log) n e = (refl, omega arith)
halt_first (Read v p c x ∷ log) zero e = absurd (cc)
halt_first (Read v p c x ∷ log) (suc n) e = let r = halt_first log n e in (r.0, omega (arith, r.1))
halt_first (Write v p c x ∷ log) zero e = absurd (cc)
halt_first (Write v p c x ∷ log) (suc n) e = let r = halt_first log n e in (r.0, omega (arith, r.1))
halt_first (Release v p ∷ log) zero e = absurd (cc)
halt_first (Release v p ∷ log) (suc n) e = let r = halt_first log n e in (r.0, omega (arith, r.1))
halt_first (Miss v p ∷ log) zero e = absurd (cc)
halt_first (Miss v p ∷ log) (suc n) e = let r = halt_first log n e in (r.0, omega (arith, r.1))
halt_first (Resume i ∷ log) zero e = absurd (cc)
halt_first (Resume i ∷ log) (suc n) e = let r = halt_first log n e in (r.0, omega (arith, r.1))
halt_first (See k ∷ log) zero e = absurd (cc)
halt_first (See k ∷ log) (suc n) e = let r = halt_first log n e in (r.0, omega (arith, r.1))

pub AtSource≢Nowhere : AtSource ≢ Nowhere
AtSource≢Nowhere e = cc

pub AtSource≢AtTarget : AtSource ≢ AtTarget
AtSource≢AtTarget e = cc

pub Nowhere≢AtTarget : Nowhere ≢ AtTarget
Nowhere≢AtTarget e = cc

access_home : (resumed halted : Bool) → (not halted || resumed) ≡ true → home_of resumed halted ≢ Nowhere
access_home true halted ok e = cc
access_home false true ok e = cc
access_home false false ok e = cc

first_release_home : (resumed halted : Bool) → may_release One halted resumed ≡ true → home_of resumed halted ≡ AtSource
first_release_home true true ok = absurd (cc)
first_release_home true false ok = absurd (cc)
first_release_home false true ok = absurd (cc)
first_release_home false false ok = refl

release_home : (version : Version) (resumed halted : Bool) → may_release version halted resumed ≡ true → home_of resumed halted ≢ Nowhere
release_home One resumed halted ok e = let at = first_release_home resumed halted ok in cc
release_home Two resumed halted ok e = access_home resumed halted ok e

resume_home : (resumed halted : Bool) → (not resumed && halted) ≡ true → home_of resumed halted ≡ Nowhere
resume_home true halted ok = absurd (cc)
resume_home false true ok = refl
resume_home false false ok = absurd (cc)

halted_home : (resumed halted : Bool) → halted ≡ true → home_of resumed halted ≢ AtSource
halted_home true halted ok e = cc
halted_home false true ok e = cc
halted_home false false ok e = cc

module _ (s : Recorded) (shape : IsRightShape s) where
  halted : ℕ → Bool
  halted n = earlier is_halt s.guest n

  in_phase_at : (n : ℕ) (r : GuestRec) → slice_get s.guest n ≡ Some r → in_phase s n r ≡ true
  in_phase_at n r e = sym (ap (λ o. keeps (in_phase s n) o) e) ∙ shape Phases (Guest, n)

  resume_needs_halt : (n : ℕ) → earlier is_resume s.guest n ≡ true → earlier is_halt s.guest n ≡ true
  resume_needs_halt zero e = absurd (cc)
  resume_needs_halt (suc n) e = go (resume_needs_halt n) (slice_get s.guest n) refl e
    where
      go : (earlier is_resume s.guest n ≡ true → earlier is_halt s.guest n ≡ true) → (o : Option GuestRec) → slice_get s.guest n ≡ o → changed (λ x found. is_resume x || found) o (earlier is_resume s.guest n) ≡ true → changed (λ x found. is_halt x || found) o (earlier is_halt s.guest n) ≡ true
      go rec None is e = rec e
      go rec (Some Halt) is e = refl
      go rec (Some (Resume i)) is e = (and_parts (not (earlier is_resume s.guest n)) (earlier is_halt s.guest n) (in_phase_at n (Resume i) is)).1
      go rec (Some (Read v p c x)) is e = rec e
      go rec (Some (Write v p c x)) is e = rec e
      go rec (Some (Release v p)) is e = rec e
      go rec (Some (Miss v p)) is e = rec e
      go rec (Some (See k)) is e = rec e

  halt_home_of : (n : ℕ) → not (earlier is_halt s.guest n) ≡ true → home_of (earlier is_resume s.guest n) true ≡ Nowhere
  halt_home_of n ok = go (earlier is_resume s.guest n) refl
    where
      go : (b : Bool) → earlier is_resume s.guest n ≡ b → home_of b true ≡ Nowhere
      go true e = let h = resume_needs_halt n e in absurd (cc)
      go false e = refl

  home_is : (n : ℕ) → home s n ≡ home_of (earlier is_resume s.guest n) (earlier is_halt s.guest n)
  home_is zero = refl
  home_is (suc n) = go (home_is n) (slice_get s.guest n) refl
    where
      go : home s n ≡ home_of (earlier is_resume s.guest n) (earlier is_halt s.guest n) → (o : Option GuestRec) → slice_get s.guest n ≡ o → changed home_after o (home s n) ≡ home_of (changed (λ x found. is_resume x || found) o (earlier is_resume s.guest n)) (changed (λ x found. is_halt x || found) o (earlier is_halt s.guest n))
      go rec None is = rec
      go rec (Some Halt) is = sym (halt_home_of n (in_phase_at n Halt is))
      go rec (Some (Resume i)) is = refl
      go rec (Some (Read v p c x)) is = rec
      go rec (Some (Write v p c x)) is = rec
      go rec (Some (Release v p)) is = rec
      go rec (Some (Miss v p)) is = rec
      go rec (Some (See k)) is = rec

  pub home_at_read : (n v p c x : ℕ) → slice_get s.guest n ≡ Some (Read v p c x) → home s n ≢ Nowhere
  home_at_read n v p c x is e = access_home _ _ (in_phase_at n (Read v p c x) is) (sym (home_is n) ∙ e)

  pub home_at_write : (n v p c x : ℕ) → slice_get s.guest n ≡ Some (Write v p c x) → home s n ≢ Nowhere
  home_at_write n v p c x is e = access_home _ _ (in_phase_at n (Write v p c x) is) (sym (home_is n) ∙ e)

  pub home_at_release : (n v p : ℕ) → slice_get s.guest n ≡ Some (Release v p) → home s n ≢ Nowhere
  home_at_release n v p is e = release_home s.version _ _ (in_phase_at n (Release v p) is) (sym (home_is n) ∙ e)

  -- in the first version no page is released at the target
  pub first_home_at_release : s.version ≡ One → (n v p : ℕ) → slice_get s.guest n ≡ Some (Release v p) → home s n ≡ AtSource
  first_home_at_release one n v p is = home_is n ∙ first_release_home _ _ (ap (λ version. may_release version (earlier is_halt s.guest n) (earlier is_resume s.guest n)) (sym one) ∙ in_phase_at n (Release v p) is)

  pub home_at_resume : (n i : ℕ) → slice_get s.guest n ≡ Some (Resume i) → home s n ≡ Nowhere
  home_at_resume n i is = home_is n ∙ resume_home _ _ (in_phase_at n (Resume i) is)

  pub home_at_halt : (n : ℕ) → slice_get s.guest n ≡ Some Halt → home s n ≡ AtSource
  home_at_halt n is = home_is n ∙ go (earlier is_resume s.guest n) (earlier is_halt s.guest n) (resume_needs_halt n) (in_phase_at n Halt is)
    where
      go : (r h : Bool) → (r ≡ true → h ≡ true) → not h ≡ true → home_of r h ≡ AtSource
      go true true f e = absurd (cc)
      go true false f e = let g = f refl in absurd (cc)
      go false true f e = absurd (cc)
      go false false f e = refl

  pub home_past_halt : (h n : ℕ) → slice_get s.guest h ≡ Some Halt → h < n → home s n ≢ AtSource
  home_past_halt h n is lt e = halted_home _ _ (earlier_true is_halt s.guest h n Halt is refl lt) (sym (home_is n) ∙ e)

  pub halt_is_at_halt : (n : ℕ) → slice_get s.guest n ≡ Some Halt → at_halt s ≡ n
  halt_is_at_halt n is = go (cases_lt (at_halt s) n)
    where
      first : (slice_get s.guest (at_halt s) ≡ Some Halt) × (at_halt s ≤ n)
      first = halt_first s.guest n is

      go : (at_halt s < n) ⊎ (n ≤ at_halt s) → at_halt s ≡ n
      go (inl lt) = absurd (home_past_halt (at_halt s) n first.0 lt (home_at_halt n is))
      go (inr le) = omega (arith, first.1)
