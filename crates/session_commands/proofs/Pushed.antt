-- A list with one more item.
use Rattle.std.proofs.Common.{◌≡◌, ◌∙◌, ◌⊎◌, ◌||◌, Bool, true, false, ℕ, suc, zero, List, [], ◌∷◌, ◌++◌, Some, None, inl, inr, refl, ap, length}
use Rattle.std.specs.List.{list_any, slice_get}
use Rattle.std.proofs.lemmas.List.Folds.{list_any-append}

-- it is one of those before, or the last
pub get_push : {A : Type 0} (xs : List A) (x : A) (n : ℕ) (y : A) → slice_get (xs ++ x ∷ []) n ≡ Some y → (slice_get xs n ≡ Some y) ⊎ ((n ≡ length xs) × (x ≡ y))
get_push [] x zero y e = inr (refl, (let e = e in cc))
get_push [] x (suc n) y e = absurd (cc)
get_push (z ∷ xs) x zero y e = inl e
get_push {A} (z ∷ xs) x (suc n) y e = up (get_push xs x n y e)
  where
    up : (slice_get xs n ≡ Some y) ⊎ ((n ≡ length xs) × (x ≡ y)) → (slice_get xs n ≡ Some y) ⊎ ((suc n ≡ suc (length xs)) × (x ≡ y))
    up (inl h) = inl h
    up (inr h) = inr (ap suc h.0, h.1)

pub length_push : {A : Type 0} (xs : List A) (x : A) → length (xs ++ x ∷ []) ≡ suc (length xs)
length_push [] x = refl
length_push (y ∷ xs) x = ap suc (length_push xs x)

pub get_old : {A : Type 0} (xs : List A) (x : A) (n : ℕ) (y : A) → slice_get xs n ≡ Some y → slice_get (xs ++ x ∷ []) n ≡ Some y
get_old [] x n y e = let none : None ≡ Some y = e in absurd cc
get_old (z ∷ xs) x zero y e = e
get_old (z ∷ xs) x (suc n) y e = get_old xs x n y e

pub get_last : {A : Type 0} (xs : List A) (x : A) → slice_get (xs ++ x ∷ []) (length xs) ≡ Some x
get_last [] x = refl
get_last (z ∷ xs) x = get_last xs x

or_false : (b : Bool) → (b || false) ≡ b
or_false true = refl
or_false false = refl

-- one of them passes the test, or the last does
pub any_push : {A : Type 0} (test : A → Bool) (xs : List A) (x : A) → list_any test (xs ++ x ∷ []) ≡ (list_any test xs || test x)
any_push test xs x = list_any-append test xs (x ∷ []) ∙ ap (λ (b : Bool). list_any test xs || b) (or_false (test x))

-- a list with one more item is not empty
pub not_empty : {A : Type 0} (xs : List A) (x : A) → xs ++ x ∷ [] ≡ [] → ⊥
not_empty [] x e = absurd cc
not_empty (y ∷ xs) x e = absurd cc
