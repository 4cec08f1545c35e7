-- The files of a log, one after the other.
use Rattle.std.proofs.Common.{◌≡◌, ◌∙◌, ◌⊎◌, ◌<◌, ◌+◌, ℕ, suc, get_or, option_map, List, [], ◌∷◌, ◌++◌, Option, Some, None, inl, inr, refl, ap, sym, subst, map, length, arith}
use Rattle.std.specs.List.{AllZip, slice_get}
use Rattle.std.proofs.lemmas.Option.{slice_get-map, slice_get_read}
use Rattle.session_commands.proofs.Pushed.{get_push, length_push}

-- something is known of each of the first of some files
pub record AreFirst {X : Type 0} (R : Option (List ℕ) → X → Type 0) (knowns : List (Option (List ℕ))) (count : ℕ) (xs : List X) : Type 0 where
  pub many : length xs ≡ count
  pub each : (k : ℕ) (known : Option (List ℕ)) (x : X) → slice_get knowns k ≡ Some known → slice_get xs k ≡ Some x → R known x

pub none_first : {X : Type 0} (R : Option (List ℕ) → X → Type 0) (knowns : List (Option (List ℕ))) → AreFirst R knowns 0 []
none_first {X} R knowns = record { many = refl; each = λ k known x e f. let none : None ≡ Some x = f in absurd cc }

some_same : {X : Type 0} (x y : X) → Some x ≡ Some y → x ≡ y
some_same x y e = cc

-- and of one more
pub one_first : {X : Type 0} (R : Option (List ℕ) → X → Type 0) (knowns : List (Option (List ℕ))) (count : ℕ) (xs : List X) (known : Option (List ℕ)) (x : X) → AreFirst R knowns count xs → slice_get knowns count ≡ Some known → R known x → AreFirst R knowns (count + 1) (xs ++ x ∷ [])
one_first {X} R knowns count xs known x h at is = record { many = omega (arith, length_push xs x, h.many); each = each }
  where
    at_last : (k : ℕ) (other : Option (List ℕ)) (y : X) → slice_get knowns k ≡ Some other → k ≡ length xs → x ≡ y → R other y
    at_last k other y e same equal =
        let there : slice_get knowns count ≡ Some other = subst (λ (n : ℕ). slice_get knowns n ≡ Some other) (same ∙ h.many) e in
        subst (λ (z : X). R other z) equal (subst (λ (o : Option (List ℕ)). R o x) (some_same known other (sym at ∙ there)) is)

    split : (k : ℕ) (other : Option (List ℕ)) (y : X) → slice_get knowns k ≡ Some other → (slice_get xs k ≡ Some y) ⊎ ((k ≡ length xs) × (x ≡ y)) → R other y
    split k other y e (inl old) = h.each k other y e old
    split k other y e (inr new) = at_last k other y e new.0 new.1

    each : (k : ℕ) (other : Option (List ℕ)) (y : X) → slice_get knowns k ≡ Some other → slice_get (xs ++ x ∷ []) k ≡ Some y → R other y
    each k other y e f = split k other y e (get_push xs x k y f)

-- and of the next of the files with these names
pub next_first : {X N : Type 0} (R : Option (List ℕ) → X → Type 0) (bytes : List ℕ → Option (List ℕ)) (name : N → List ℕ) (names ys : List N) (place : ℕ) (n : N) (path : List ℕ) (xs : List X) (x : X) → ys ≡ names → place < length ys → n ≡ get_or ys place n → path ≡ name n → AreFirst R (map (λ n. bytes (name n)) names) place xs → R (bytes path) x → AreFirst R (map (λ n. bytes (name n)) names) (place + 1) (xs ++ x ∷ [])
next_first {X} {N} R bytes name names ys place n path xs x same lt is named h known = one_first R (map f names) place xs (f n) x h there (subst (λ (p : List ℕ). R (bytes p) x) named known)
  where
    f : N → Option (List ℕ)
    f n = bytes (name n)

    there : slice_get (map f names) place ≡ Some (f n)
    there = slice_get-map f names place ∙ ap (option_map f) (ap (λ (l : List N). slice_get l place) (sym same) ∙ slice_get_read ys (length ys) place n refl lt is)

-- of all of them
pub all_known : {X : Type 0} (R : Option (List ℕ) → X → Type 0) (knowns : List (Option (List ℕ))) (xs : List X) → length xs ≡ length knowns → ((k : ℕ) (known : Option (List ℕ)) (x : X) → slice_get knowns k ≡ Some known → slice_get xs k ≡ Some x → R known x) → AllZip R knowns xs
all_known R [] [] many each = tt
all_known R [] (x ∷ xs) many each = absurd (omega arith)
all_known R (known ∷ knowns) [] many each = absurd (omega arith)
all_known R (known ∷ knowns) (x ∷ xs) many each = (each 0 known x refl refl, all_known R knowns xs (omega arith) (λ k other y e f. each (suc k) other y e f))
