-- Logs that grow at their end.
use Rattle.std.proofs.Common.{◌≡◌, ℕ, zero, suc, ◌⊎◌, inl, inr, Bool, true, false, ◌||◌, List, [], ◌∷◌, ◌++◌, length, Some, refl, ap}
use Rattle.std.specs.Prelude.{slice_get}
use Rattle.std.specs.List.{list_any}

pub length_suc : {A : Type 0} (xs : List A) (x : A) → length (xs ++ x ∷ []) ≡ suc (length xs)
length_suc [] x = refl
length_suc (y ∷ xs) x = ap suc (length_suc xs x)

-- whether a record of a log is of some kind, with one more
pub any_push : {A : Type 0} (is : A → Bool) (xs : List A) (x : A) → list_any is (xs ++ x ∷ []) ≡ (list_any is xs || is x)
any_push is [] x = or_last (is x)
  where
    or_last : (b : Bool) → (b || false) ≡ b
    or_last true = refl
    or_last false = refl
any_push is (y ∷ xs) x = go (is y) (any_push is xs x)
  where
    go : (b : Bool) → list_any is (xs ++ x ∷ []) ≡ (list_any is xs || is x) → (b || list_any is (xs ++ x ∷ [])) ≡ ((b || list_any is xs) || is x)
    go true e = refl
    go false e = e

pub with_none : (b : Bool) → b ≡ (b || false)
with_none true = refl
with_none false = refl

pub with_one : (b : Bool) → true ≡ (b || true)
with_one true = refl
with_one false = refl

pub get_old : {A : Type 0} (xs ys : List A) (n : ℕ) (y : A) → slice_get xs n ≡ Some y → slice_get (xs ++ ys) n ≡ Some y
get_old [] ys n y e = absurd (cc)
get_old (x ∷ xs) ys zero y e = e
get_old (x ∷ xs) ys (suc n) y e = get_old xs ys n y e

pub get_new : {A : Type 0} (xs : List A) (x : A) → slice_get (xs ++ x ∷ []) (length xs) ≡ Some x
get_new [] x = refl
get_new (y ∷ xs) x = get_new xs x

pub get_push : {A : Type 0} (xs : List A) (x : A) (n : ℕ) (y : A) → slice_get (xs ++ x ∷ []) n ≡ Some y → (slice_get xs n ≡ Some y) ⊎ ((n ≡ length xs) × (x ≡ y))
get_push [] x zero y e = inr (refl, (let e = e in cc))
get_push [] x (suc n) y e = absurd (cc)
get_push (z ∷ xs) x zero y e = inl e
get_push {A} (z ∷ xs) x (suc n) y e = up (get_push xs x n y e)
  where
    up : (slice_get xs n ≡ Some y) ⊎ ((n ≡ length xs) × (x ≡ y)) → (slice_get xs n ≡ Some y) ⊎ ((suc n ≡ suc (length xs)) × (x ≡ y))
    up (inl h) = inl h
    up (inr h) = inr (ap suc h.0, h.1)
