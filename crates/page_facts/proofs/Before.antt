-- What the tests of earlier records mean.
use Rattle.std.proofs.Common.{◌≡◌, ℕ, zero, suc, ◌<◌, ◌≤◌, ◌⊎◌, inl, inr, Bool, true, false, cond, ◌||◌, List, Option, Some, None, refl, sym, ap, ◌∙◌, subst, arith}
use Rattle.std.specs.Prelude.{slice_get}
use Rattle.std.proofs.lemmas.Bool.{cases_lt, or_parts}
use Rattle.audit_model.specs.Shape.{passes}
use Rattle.page_facts.specs.Tables.{some_before, or_here, first_before}

-- none passes
pub some_false : {A : Type 0} (test : ℕ → A → Bool) (log : List A) (n : ℕ) → some_before test log n ≡ false → (m : ℕ) (r : A) → slice_get log m ≡ Some r → m < n → test m r ≡ false
some_false test log zero e m r is lt = absurd (omega arith)
some_false {A} test log (suc n) e m r is lt = go (λ f l. some_false test log n f m r is l) (cases_lt m n)
  where
    parts : (passes (test n) (slice_get log n) ≡ false) × (some_before test log n ≡ false)
    parts = or_parts (passes (test n) (slice_get log n)) (some_before test log n) e

    go : (some_before test log n ≡ false → m < n → test m r ≡ false) → (m < n) ⊎ (n ≤ m) → test m r ≡ false
    go rec (inl l) = rec parts.1 l
    go rec (inr l) = let same : m ≡ n = omega arith in sym (ap (λ o. passes (test m) o) is) ∙ ap (λ k. passes (test k) (slice_get log k)) same ∙ parts.0

-- one passes
pub some_true : {A : Type 0} (test : ℕ → A → Bool) (log : List A) (n : ℕ) → some_before test log n ≡ true → (m : ℕ) × (r : A) × (slice_get log m ≡ Some r) × (test m r ≡ true) × (m < n)
some_true test log zero e = absurd (cc)
some_true {A} test log (suc n) e = go (λ f. let w = some_true test log n f in (w.0, w.1, w.2, w.3, omega (arith, w.4))) (slice_get log n) refl e
  where
    at : (some_before test log n ≡ true → (m : ℕ) × (r : A) × (slice_get log m ≡ Some r) × (test m r ≡ true) × (m < suc n)) → (r : A) → slice_get log n ≡ Some r → (b : Bool) → test n r ≡ b → (b || some_before test log n) ≡ true → (m : ℕ) × (r : A) × (slice_get log m ≡ Some r) × (test m r ≡ true) × (m < suc n)
    at rec r is true t e = (n, r, is, t, omega arith)
    at rec r is false t e = rec e

    go : (some_before test log n ≡ true → (m : ℕ) × (r : A) × (slice_get log m ≡ Some r) × (test m r ≡ true) × (m < suc n)) → (o : Option A) → slice_get log n ≡ o → (passes (test n) o || some_before test log n) ≡ true → (m : ℕ) × (r : A) × (slice_get log m ≡ Some r) × (test m r ≡ true) × (m < suc n)
    go rec None is e = rec e
    go rec (Some r) is e = at rec r is (test n r) refl e

-- the first that passes, and that none does
pub first_none : {A : Type 0} (test : ℕ → A → Bool) (log : List A) (n : ℕ) → first_before test log n ≡ None → (m : ℕ) (r : A) → slice_get log m ≡ Some r → m < n → test m r ≡ false
first_none test log zero e m r is lt = absurd (omega arith)
first_none {A} test log (suc n) e m r is lt = go (λ f l. first_none test log n f m r is l) (first_before test log n) refl (passes (test n) (slice_get log n)) refl e (cases_lt m n)
  where
    go : (first_before test log n ≡ None → m < n → test m r ≡ false) → (o : Option ℕ) → first_before test log n ≡ o → (b : Bool) → passes (test n) (slice_get log n) ≡ b → or_here o b n ≡ None → (m < n) ⊎ (n ≤ m) → test m r ≡ false
    go rec (Some k) was b t e _ = absurd (cc)
    go rec None was true t e _ = absurd (cc)
    go rec None was false t e (inl l) = rec was l
    go rec None was false t e (inr l) = let same : m ≡ n = omega arith in sym (ap (λ o. passes (test m) o) is) ∙ ap (λ k. passes (test k) (slice_get log k)) same ∙ t

pub record IsFirstAt {A : Type 0} (test : ℕ → A → Bool) (log : List A) (n k : ℕ) : Type 0 where
  pub by : A
  pub stands : slice_get log k ≡ Some by
  pub passes_test : test k by ≡ true
  pub below : k < n
  pub is_first : (m : ℕ) (r : A) → slice_get log m ≡ Some r → m < k → test m r ≡ false

pub first_some : {A : Type 0} (test : ℕ → A → Bool) (log : List A) (n k : ℕ) → first_before test log n ≡ Some k → IsFirstAt test log n k
first_some test log zero k e = absurd (cc)
first_some {A} test log (suc n) k e = go (λ f. first_some test log n k f) (first_before test log n) refl (slice_get log n) refl e
  where
    up : IsFirstAt test log n k → IsFirstAt test log (suc n) k
    up f = let b = f.below in record { by = f.by; stands = f.stands; passes_test = f.passes_test; below = omega arith; is_first = f.is_first }

    at : first_before test log n ≡ None → (r : A) → slice_get log n ≡ Some r → (b : Bool) → test n r ≡ b → cond b (Some n) None ≡ Some k → IsFirstAt test log (suc n) k
    at was r is true t e =
        let same : n ≡ k = cc in
        subst (λ j. IsFirstAt test log (suc n) j) same (record { by = r; stands = is; passes_test = t; below = omega arith; is_first = first_none test log n was })
    at was r is false t e = absurd (cc)

    go : (first_before test log n ≡ Some k → IsFirstAt test log n k) → (o : Option ℕ) → first_before test log n ≡ o → (x : Option A) → slice_get log n ≡ x → or_here o (passes (test n) x) n ≡ Some k → IsFirstAt test log (suc n) k
    go rec (Some j) was x is e = let same : j ≡ k = cc in up (rec (was ∙ ap (λ i. Some i) same))
    go rec None was None is e = absurd (cc)
    go rec None was (Some r) is e = at was r is (test n r) refl e
