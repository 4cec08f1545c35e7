-- A list with one item more or with another list after it, and what is known of the items of a list.
use Rattle.std.proofs.Common.{◌≡◌, ℕ, zero, suc, ◌+◌, ◌⊎◌, inl, inr, List, [], ◌∷◌, ◌++◌, length, Some, refl, sym, ap, ◌∙◌, subst, arith}
use Rattle.std.specs.Prelude.{slice_get}
use Rattle.std.proofs.lemmas.List.{length_push}

pushed : {A : Type 0} (xs : List A) (x : A) (q : ℕ) (y : A) → slice_get (xs ++ x ∷ []) q ≡ Some y → (slice_get xs q ≡ Some y) ⊎ ((q ≡ length xs) × (x ≡ y))
pushed [] x zero y is = inr (refl, cc)
pushed [] x (suc q) y is = absurd (cc)
pushed (z ∷ xs) x zero y is = inl is
pushed (z ∷ xs) x (suc q) y is = elim (pushed xs x q y is) [ inl h ↦ inl h | inr h ↦ inr (ap suc h.0, h.1) ]

-- what holds of each item by its place holds of the item more too
pub each_more : {A : Type 0} (P : ℕ → A → Type 0) (xs new : List A) (x : A) → new ≡ xs ++ x ∷ [] → ((n : ℕ) (y : A) → slice_get xs n ≡ Some y → P n y) → P (length xs) x → (n : ℕ) (y : A) → slice_get new n ≡ Some y → P n y
each_more {A} P xs new x e each made n y is = go (pushed xs x n y (subst (λ (zs : List A). slice_get zs n ≡ Some y) e is))
  where
    go : (slice_get xs n ≡ Some y) ⊎ ((n ≡ length xs) × (x ≡ y)) → P n y
    go (inl h) = each n y h
    go (inr h) = subst (λ k. P k y) (sym h.0) (subst (λ (z : A). P (length xs) z) h.1 made)

pub pushed_length : {A : Type 0} (xs new : List A) (x : A) → new ≡ xs ++ x ∷ [] → length new ≡ length xs + 1
pushed_length xs new x e = ap length e ∙ length_push xs x

joined : {A : Type 0} (xs ys : List A) (k : ℕ) (y : A) → slice_get (xs ++ ys) k ≡ Some y → (slice_get xs k ≡ Some y) ⊎ ((j : ℕ) × (k ≡ length xs + j) × (slice_get ys j ≡ Some y))
joined [] ys k y is = inr (k, omega arith, is)
joined (x ∷ xs) ys zero y is = inl is
joined (x ∷ xs) ys (suc k) y is = elim (joined xs ys k y is) [ inl h ↦ inl h | inr h ↦ inr (h.0, (let e = h.1 in omega (arith, e)), h.2) ]

-- what holds of each item of both by its place holds of each item
pub each_joined : {A : Type 0} (P : ℕ → A → Type 0) (xs ys new : List A) → new ≡ xs ++ ys → ((k : ℕ) (y : A) → slice_get xs k ≡ Some y → P k y) → ((k : ℕ) (y : A) → slice_get ys k ≡ Some y → P (length xs + k) y) → (k : ℕ) (y : A) → slice_get new k ≡ Some y → P k y
each_joined {A} P xs ys new e low high k y is = go (joined xs ys k y (subst (λ (zs : List A). slice_get zs k ≡ Some y) e is))
  where
    go : (slice_get xs k ≡ Some y) ⊎ ((j : ℕ) × (k ≡ length xs + j) × (slice_get ys j ≡ Some y)) → P k y
    go (inl h) = low k y h
    go (inr h) = subst (λ i. P i y) (sym h.1) (high h.0 y h.2)
