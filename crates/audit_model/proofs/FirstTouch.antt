-- The first touch of a page after handover.
use Rattle.std.proofs.Common.{◌≡◌, ℕ, zero, suc, ◌<◌, ◌≤◌, ◌⊎◌, inl, inr, Bool, true, false, Option, Some, None, refl, sym, ap, ◌∙◌, subst, arith}
use Rattle.std.specs.Prelude.{slice_get}
use Rattle.std.proofs.lemmas.Bool.{cases_lt}
use Rattle.migration_types.specs.declared.records.GuestRec.{GuestRec}
use Rattle.migration_types.specs.Sessions.{Recorded}
use Rattle.audit_model.specs.Flat.{Home, AtSource, Nowhere, AtTarget, home}
use Rattle.audit_model.specs.Certificates.{is_touch_of, IsLateTouch}

-- guest record n is a touch of the page after handover, or it is none
is_late_or_not : (s : Recorded) (page n : ℕ) → IsLateTouch s page n ⊎ (IsLateTouch s page n → ⊥)
is_late_or_not s page n = there (slice_get s.guest n) refl
  where
    where_it_is : (r : GuestRec) → slice_get s.guest n ≡ Some r → is_touch_of page r ≡ true → (h : Home) → home s n ≡ h → IsLateTouch s page n ⊎ (IsLateTouch s page n → ⊥)
    where_it_is r is touch AtTarget at = inl (record { by = r; stands = is; is_touch = touch; is_late = at })
    where_it_is r is touch AtSource at = inr (λ late. let e = late.is_late in cc)
    where_it_is r is touch Nowhere at = inr (λ late. let e = late.is_late in cc)

    no_touch : (r : GuestRec) → slice_get s.guest n ≡ Some r → is_touch_of page r ≡ false → IsLateTouch s page n → ⊥
    no_touch r is other late =
        let e : Some r ≡ Some late.by = sym is ∙ late.stands in
        let same : r ≡ late.by = cc in
        let f = ap (λ t. is_touch_of page t) same ∙ late.is_touch in
        cc

    touches : (r : GuestRec) → slice_get s.guest n ≡ Some r → (b : Bool) → is_touch_of page r ≡ b → IsLateTouch s page n ⊎ (IsLateTouch s page n → ⊥)
    touches r is true e = where_it_is r is e (home s n) refl
    touches r is false e = inr (no_touch r is e)

    there : (o : Option GuestRec) → slice_get s.guest n ≡ o → IsLateTouch s page n ⊎ (IsLateTouch s page n → ⊥)
    there None is = inr (λ late. let e = late.stands in cc)
    there (Some r) is = touches r is (is_touch_of page r) refl

pub record IsFirstTouch (s : Recorded) (page n : ℕ) : Type 0 where
  pub touch : IsLateTouch s page n
  pub is_first : (m : ℕ) → IsLateTouch s page m → n ≤ m

-- it stands before guest record n, or no touch does
pub first_touch_below : (s : Recorded) (page n : ℕ) → ((m : ℕ) × (m < n) × IsFirstTouch s page m) ⊎ ((m : ℕ) → m < n → IsLateTouch s page m → ⊥)
first_touch_below s page zero = inr (λ m lt late. absurd (omega arith))
first_touch_below s page (suc n) = go (first_touch_below s page n)
  where
    at_least : ((m : ℕ) → m < n → IsLateTouch s page m → ⊥) → (m : ℕ) → IsLateTouch s page m → (m < n) ⊎ (n ≤ m) → n ≤ m
    at_least none m late (inl less) = absurd (none m less late)
    at_least none m late (inr more) = more

    last : ((m : ℕ) → m < n → IsLateTouch s page m → ⊥) → IsLateTouch s page n ⊎ (IsLateTouch s page n → ⊥) → ((m : ℕ) × (m < suc n) × IsFirstTouch s page m) ⊎ ((m : ℕ) → m < suc n → IsLateTouch s page m → ⊥)
    last none (inl late) = inl (n, omega arith, record { touch = late; is_first = λ m other. at_least none m other (cases_lt m n) })
    last none (inr not_late) = inr (λ m lt late. at m lt late (cases_lt m n))
      where
        at : (m : ℕ) → m < suc n → IsLateTouch s page m → (m < n) ⊎ (n ≤ m) → ⊥
        at m lt late (inl less) = none m less late
        at m lt late (inr more) = let same : m ≡ n = omega arith in not_late (subst (λ k. IsLateTouch s page k) same late)

    go : ((m : ℕ) × (m < n) × IsFirstTouch s page m) ⊎ ((m : ℕ) → m < n → IsLateTouch s page m → ⊥) → ((m : ℕ) × (m < suc n) × IsFirstTouch s page m) ⊎ ((m : ℕ) → m < suc n → IsLateTouch s page m → ⊥)
    go (inl found) = inl (found.0, omega (arith, found.1), found.2)
    go (inr none) = last none (is_late_or_not s page n)

-- where there is a touch, there is a first one
pub first_touch_at : (s : Recorded) (page n : ℕ) → IsLateTouch s page n → (m : ℕ) × (m ≤ n) × IsFirstTouch s page m
first_touch_at s page n late = go (first_touch_below s page (suc n))
  where
    go : ((m : ℕ) × (m < suc n) × IsFirstTouch s page m) ⊎ ((m : ℕ) → m < suc n → IsLateTouch s page m → ⊥) → (m : ℕ) × (m ≤ n) × IsFirstTouch s page m
    go (inl found) = (found.0, omega (arith, found.1), found.2)
    go (inr none) = absurd (none n (omega arith) late)
