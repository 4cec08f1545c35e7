-- Logs that grow at their end.
use Rattle.std.proofs.Common.{◌≡◌, ℕ, zero, suc, ◌<◌, ◌≤◌, ◌⊎◌, inl, inr, List, [], ◌∷◌, ◌++◌, length, Some, refl, sym, ap, ◌∙◌, subst, arith}
use Rattle.std.specs.List.{AllByRecursion}
use Rattle.std.specs.Prelude.{slice_get}
use Rattle.audit_model.specs.Flat.{before, changed}

-- what holds of each item, with its place
abbrev pub AllAt : {A : Type 0} → (ℕ → A → Type 0) → List A → Type 0
AllAt {A} P log = (n : ℕ) (x : A) → slice_get log n ≡ Some x → P n x

length_suc : {A : Type 0} (xs : List A) (x : A) → length (xs ++ x ∷ []) ≡ suc (length xs)
length_suc [] x = refl
length_suc (y ∷ xs) x = ap suc (length_suc xs x)

pub get_old : {A : Type 0} (xs ys : List A) (n : ℕ) (y : A) → slice_get xs n ≡ Some y → slice_get (xs ++ ys) n ≡ Some y
get_old [] ys n y e = absurd (cc)
get_old (x ∷ xs) ys zero y e = e
get_old (x ∷ xs) ys (suc n) y e = get_old xs ys n y e

pub get_new : {A : Type 0} (xs : List A) (x : A) → slice_get (xs ++ x ∷ []) (length xs) ≡ Some x
get_new [] x = refl
get_new (y ∷ xs) x = get_new xs x

get_push : {A : Type 0} (xs : List A) (x : A) (n : ℕ) (y : A) → slice_get (xs ++ x ∷ []) n ≡ Some y → (slice_get xs n ≡ Some y) ⊎ ((n ≡ length xs) × (x ≡ y))
get_push [] x zero y e = inr (refl, (let e = e in cc))
get_push [] x (suc n) y e = absurd (cc)
get_push (z ∷ xs) x zero y e = inl e
get_push {A} (z ∷ xs) x (suc n) y e = up (get_push xs x n y e)
  where
    up : (slice_get xs n ≡ Some y) ⊎ ((n ≡ length xs) × (x ≡ y)) → (slice_get xs n ≡ Some y) ⊎ ((suc n ≡ suc (length xs)) × (x ≡ y))
    up (inl h) = inl h
    up (inr h) = inr (ap suc h.0, h.1)

get_same : {A : Type 0} (xs ys : List A) (n : ℕ) → n < length xs → slice_get (xs ++ ys) n ≡ slice_get xs n
get_same [] ys n lt = absurd (omega arith)
get_same (x ∷ xs) ys zero lt = refl
get_same (x ∷ xs) ys (suc n) lt = get_same xs ys n (omega arith)

-- what stands before an item of the log is as it was
pub before_push : {A B : Type 0} (change : A → B → B) (start : B) (xs ys : List A) (n : ℕ) → n ≤ length xs → before change start (xs ++ ys) n ≡ before change start xs n
before_push change start xs ys zero le = refl
before_push change start xs ys (suc n) le =
    ap (λ o. changed change o (before change start (xs ++ ys) n)) (get_same xs ys n (omega arith))
    ∙ ap (λ b. changed change (slice_get xs n) b) (before_push change start xs ys n (omega arith))

pub before_end : {A B : Type 0} (change : A → B → B) (start : B) (xs : List A) (x : A) → before change start (xs ++ x ∷ []) (length (xs ++ x ∷ [])) ≡ change x (before change start xs (length xs))
before_end change start xs x =
    ap (λ n. before change start (xs ++ x ∷ []) n) (length_suc xs x)
    ∙ ap (λ o. changed change o (before change start (xs ++ x ∷ []) (length xs))) (get_new xs x)
    ∙ ap (λ b. change x b) (before_push change start xs (x ∷ []) (length xs) (omega arith))

-- each item of a log that has grown by one
pub all_push : {A : Type 0} (P Q : ℕ → A → Type 0) (xs : List A) (x : A) → AllAt P xs → ((n : ℕ) (y : A) → slice_get xs n ≡ Some y → P n y → Q n y) → Q (length xs) x → AllAt Q (xs ++ x ∷ [])
all_push {A} P Q xs x all kept here n y e = go (get_push xs x n y e)
  where
    go : (slice_get xs n ≡ Some y) ⊎ ((n ≡ length xs) × (x ≡ y)) → Q n y
    go (inl h) = kept n y h (all n y h)
    go (inr h) = subst (λ k. Q k y) (sym h.0) (subst (λ z. Q (length xs) z) h.1 here)

pub each_push : {A : Type 0} (P : A → Type 0) (xs : List A) (x : A) → AllByRecursion P xs → P x → AllByRecursion P (xs ++ x ∷ [])
each_push P [] x all here = (here, tt)
each_push P (y ∷ xs) x all here = (all.0, each_push P xs x all.1 here)
