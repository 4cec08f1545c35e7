-- Scans of a log, record by record.
use Rattle.std.proofs.Common.{◌≡◌, ℕ, zero, suc, ◌+◌, ◌<◌, ◌≤◌, ◌⊎◌, inl, inr, Bool, true, false, cond, List, Some, None, refl, ap, ◌∙◌, subst, arith}
use Rattle.std.specs.Prelude.{slice_get}
use Rattle.std.proofs.lemmas.Bool.{cases_lt}
use Rattle.audit_model.specs.Shape.{passes}
use Rattle.page_facts.specs.Tables.{first_before, or_here}
use Rattle.session_story.specs.Scans.{last_before, how_many}

next : {B : Type 0} (f : ℕ → B) (n : ℕ) → f (n + 1) ≡ f (suc n)
next f n = ap f (omega arith)

module _ {A : Type 0} (test : ℕ → A → Bool) (log : List A) where
  -- none so far, and this record does not pass
  pub none_yet : (n : ℕ) (r : A) → slice_get log n ≡ Some r → test n r ≡ false → first_before test log n ≡ None → first_before test log (n + 1) ≡ None
  none_yet n r is e was = next (first_before test log) n ∙ ap (λ o. or_here o (passes (test n) (slice_get log n)) n) was ∙ ap (λ o. or_here None (passes (test n) o) n) is ∙ ap (λ b. or_here None b n) e

  -- none so far, and this record passes
  pub this_one : (n : ℕ) (r : A) → slice_get log n ≡ Some r → test n r ≡ true → first_before test log n ≡ None → first_before test log (n + 1) ≡ Some n
  this_one n r is e was = next (first_before test log) n ∙ ap (λ o. or_here o (passes (test n) (slice_get log n)) n) was ∙ ap (λ o. or_here None (passes (test n) o) n) is ∙ ap (λ b. or_here None b n) e

  -- the first one stays the first
  pub stays : (n k m : ℕ) → first_before test log n ≡ Some k → n ≤ m → first_before test log m ≡ Some k
  stays n k zero e le = let same : n ≡ zero = omega arith in subst (λ j. first_before test log j ≡ Some k) same e
  stays n k (suc m) e le = go (λ l. stays n k m e l) (cases_lt n (suc m))
    where
      go : (n ≤ m → first_before test log m ≡ Some k) → (n < suc m) ⊎ (suc m ≤ n) → first_before test log (suc m) ≡ Some k
      go rec (inl lt) = ap (λ o. or_here o (passes (test m) (slice_get log m)) m) (rec (omega arith))
      go rec (inr ge) = let same : n ≡ suc m = omega arith in subst (λ j. first_before test log j ≡ Some k) same e

  pub last_here : (n : ℕ) (r : A) → slice_get log n ≡ Some r → test n r ≡ true → last_before test log (n + 1) ≡ Some n
  last_here n r is e = next (last_before test log) n ∙ ap (λ o. cond (passes (test n) o) (Some n) (last_before test log n)) is ∙ ap (λ b. cond b (Some n) (last_before test log n)) e

  pub last_same : (n : ℕ) (r : A) → slice_get log n ≡ Some r → test n r ≡ false → last_before test log (n + 1) ≡ last_before test log n
  last_same n r is e = next (last_before test log) n ∙ ap (λ o. cond (passes (test n) o) (Some n) (last_before test log n)) is ∙ ap (λ b. cond b (Some n) (last_before test log n)) e

  pub one_more : (n : ℕ) (r : A) → slice_get log n ≡ Some r → test n r ≡ true → how_many test log (n + 1) ≡ suc (how_many test log n)
  one_more n r is e = next (how_many test log) n ∙ ap (λ o. cond (passes (test n) o) (suc (how_many test log n)) (how_many test log n)) is ∙ ap (λ b. cond b (suc (how_many test log n)) (how_many test log n)) e

  pub no_more : (n : ℕ) (r : A) → slice_get log n ≡ Some r → test n r ≡ false → how_many test log (n + 1) ≡ how_many test log n
  no_more n r is e = next (how_many test log) n ∙ ap (λ o. cond (passes (test n) o) (suc (how_many test log n)) (how_many test log n)) is ∙ ap (λ b. cond b (suc (how_many test log n)) (how_many test log n)) e

  -- no more than there are
  pub few_pass : (n : ℕ) → how_many test log n ≤ n
  few_pass zero = omega arith
  few_pass (suc n) = go (passes (test n) (slice_get log n)) refl (few_pass n)
    where
      go : (b : Bool) → passes (test n) (slice_get log n) ≡ b → how_many test log n ≤ n → how_many test log (suc n) ≤ suc n
      go true e le = let here : how_many test log (suc n) ≡ suc (how_many test log n) = ap (λ b. cond b (suc (how_many test log n)) (how_many test log n)) e in omega (arith, here, le)
      go false e le = let here : how_many test log (suc n) ≡ how_many test log n = ap (λ b. cond b (suc (how_many test log n)) (how_many test log n)) e in omega (arith, here, le)
