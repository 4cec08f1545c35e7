-- Files that give a log in turn.
use Rattle.std.proofs.Common.{◌≡◌, ℕ, zero, suc, ◌+◌, ◌<◌, ◌≤◌, ◌⊎◌, inl, inr, List, [], ◌∷◌, ◌++◌, length, get_or, Option, Some, None, refl, sym, ap, subst, ◌∙◌, arith}
use Rattle.std.specs.Prelude.{slice_get, min}
use Rattle.std.specs.Option.{option_map}
use Rattle.std.specs.List.Sorted.{IsPermutation}
use Rattle.std.proofs.lemmas.List.Sorted.{IsPermutation-refl, IsPermutation-cons, IsPermutation-trans, IsPermutation-append_right, IsPermutation-middle}
use Rattle.std.proofs.lemmas.Option.{slice_get-get_or, slice_get-map, slice_get_past}
use Rattle.std.proofs.lemmas.Bool.{cases_lt}
use Rattle.recorder_files.specs.declared.turns.Turn.TheVariants.{End}
use Rattle.recorder_files.specs.inner.Heads.{IsLeastOf, lower_of}
use Rattle.recorder_files.specs.Gathered.{Numbered, numbered_from, all_of, first_of, number_of, heads, behind_first, taken_from, Has, IsTurn, Gives}

-- no file has a record any more
none_left : {X : Type 0} (n : ℕ) (files : List (Numbered X)) → IsTurn (heads files) n End → all_of files ≡ []
none_left n [] e = refl
none_left n ([] ∷ files) e = none_left n files (λ j m h. e (suc j) m h)
none_left n ((r ∷ file) ∷ files) e = absurd (e 0 r.0 refl)

-- a record that is taken stands in front of those that are left
taken : {X : Type 0} (files : List (Numbered X)) (i : ℕ) (r : ℕ × X) (file : Numbered X) → slice_get files i ≡ Some (r ∷ file) → IsPermutation (all_of files) (r ∷ all_of (taken_from i files))
taken [] i r file e = absurd (cc)
taken {X} (f ∷ files) zero r file e = let same : f ≡ r ∷ file = cc in subst (λ (g : Numbered X). IsPermutation (g ++ all_of files) (r ∷ (behind_first g ++ all_of files))) (sym same) (IsPermutation-refl (r ∷ (file ++ all_of files)))
taken (f ∷ files) (suc i) r file e = IsPermutation-trans (f ++ all_of files) (f ++ r ∷ all_of (taken_from i files)) (r ∷ (f ++ all_of (taken_from i files))) (IsPermutation-append_right f (all_of files) (r ∷ all_of (taken_from i files)) (taken files i r file e)) (IsPermutation-middle f r (all_of (taken_from i files)))

pub gathered_from : {X : Type 0} (n : ℕ) (files : List (Numbered X)) (log : List X) → Gives n files log → IsPermutation (all_of files) (numbered_from n log)
gathered_from {X} n files [] g = subst (λ (rs : Numbered X). IsPermutation rs []) (sym (none_left n files g)) (IsPermutation-refl [])
gathered_from n files (x ∷ log) g = IsPermutation-trans (all_of files) ((n, x) ∷ all_of (taken_from g.0 files)) ((n, x) ∷ numbered_from (suc n) log) (taken files g.0 (n, x) g.2.0 g.2.1) (IsPermutation-cons (n, x) (all_of (taken_from g.0 files)) (numbered_from (suc n) log) (gathered_from (suc n) (taken_from g.0 files) log g.3))

-- the file that has the turn has that number
held : {X : Type 0} (files : List (Numbered X)) (i n : ℕ) (x : X) (file : Numbered X) → slice_get files i ≡ Some ((n, x) ∷ file) → Has (heads files) i n
held files i n x file e = slice_get-map (λ f. number_of (first_of f)) files i ∙ ap (option_map (λ f. number_of (first_of f))) e

text_of : {X : Type 0} → X → Option (Numbered X) → X
text_of d None = d
text_of d (Some []) = d
text_of d (Some (r ∷ file)) = r.1

pub one_log : {X : Type 0} (n : ℕ) (files : List (Numbered X)) (a b : List X) → Gives n files a → Gives n files b → a ≡ b
unfolding text_of
one_log n files [] [] g h = refl
one_log n files [] (y ∷ b) g h = absurd (g h.0 n (held files h.0 n y h.2.0 h.2.1))
one_log n files (x ∷ a) [] g h = absurd (h g.0 n (held files g.0 n x g.2.0 g.2.1))
one_log {X} n files (x ∷ a) (y ∷ b) g h =
    let same : h.0 ≡ g.0 = g.1.1 h.0 (held files h.0 n y h.2.0 h.2.1) in
    let there : slice_get files h.0 ≡ slice_get files g.0 = ap (slice_get files) same in
    let both : Some ((n, y) ∷ h.2.0) ≡ Some ((n, x) ∷ g.2.0) = sym h.2.1 ∙ there ∙ g.2.1 in
    let first : x ≡ y = sym (ap (text_of x) both) in
    let left : Gives (suc n) (taken_from g.0 files) b = subst (λ i. Gives (suc n) (taken_from i files) b) same h.3 in
    let rest : a ≡ b = one_log (suc n) (taken_from g.0 files) a b g.3 left in
    cc

-- one number more
pub least_more : (numbers : List (Option ℕ)) (i : ℕ) (old head : Option ℕ) → slice_get numbers i ≡ Some head → IsLeastOf numbers i old → IsLeastOf numbers (i + 1) (lower_of old head)
least_more numbers i None None e h = λ j m lt has. go j m has (cases_lt j i) lt
  where
    go : (j m : ℕ) → Has numbers j m → (j < i) ⊎ (i ≤ j) → j < i + 1 → ⊥
    go j m has (inl lt) within = h j m lt has
    go j m has (inr le) within = let same : j ≡ i = omega arith in let there : slice_get numbers j ≡ slice_get numbers i = ap (slice_get numbers) same in cc
least_more numbers i None (Some b) e h = ((i, e), λ j m lt has. go j m has (cases_lt j i) lt)
  where
    go : (j m : ℕ) → Has numbers j m → (j < i) ⊎ (i ≤ j) → j < i + 1 → b ≤ m
    go j m has (inl lt) within = absurd (h j m lt has)
    go j m has (inr le) within = let same : j ≡ i = omega arith in let there : slice_get numbers j ≡ slice_get numbers i = ap (slice_get numbers) same in let equal : b ≡ m = cc in omega arith
least_more numbers i (Some a) None e h = (h.0, λ j m lt has. go j m has (cases_lt j i) lt)
  where
    go : (j m : ℕ) → Has numbers j m → (j < i) ⊎ (i ≤ j) → j < i + 1 → a ≤ m
    go j m has (inl lt) within = h.1 j m lt has
    go j m has (inr le) within = let same : j ≡ i = omega arith in let there : slice_get numbers j ≡ slice_get numbers i = ap (slice_get numbers) same in absurd (cc)
least_more numbers i (Some a) (Some b) e h = (holder (cases_lt a b), λ j m lt has. go j m has (cases_lt j i) lt)
  where
    lower_left : (x y : ℕ) → x < y → x ≡ min x y
    lower_left x y lt = omega arith

    lower_right : (x y : ℕ) → y ≤ x → y ≡ min x y
    lower_right x y le = omega arith

    holder : (a < b) ⊎ (b ≤ a) → (k : ℕ) × Has numbers k (min a b)
    holder (inl lt) = (h.0.0, subst (λ n. Has numbers h.0.0 n) (lower_left a b lt) h.0.1)
    holder (inr le) = (i, subst (λ n. Has numbers i n) (lower_right a b le) e)

    go : (j m : ℕ) → Has numbers j m → (j < i) ⊎ (i ≤ j) → j < i + 1 → min a b ≤ m
    go j m has (inl lt) within = let l = h.1 j m lt has in omega (arith, l)
    go j m has (inr le) within = let same : j ≡ i = omega arith in let there : slice_get numbers j ≡ slice_get numbers i = ap (slice_get numbers) same in let equal : b ≡ m = cc in omega arith

pub least_read : (numbers : List (Option ℕ)) (i : ℕ) (old d new : Option ℕ) → i < length numbers → new ≡ lower_of old (get_or numbers i d) → IsLeastOf numbers i old → IsLeastOf numbers (i + 1) new
least_read numbers i old d new lt e h = subst (λ o. IsLeastOf numbers (i + 1) o) (sym e) (least_more numbers i old (get_or numbers i d) (slice_get-get_or numbers i d lt) h)

-- a number stands among all of them
there : (numbers : List (Option ℕ)) (j m : ℕ) → Has numbers j m → j < length numbers
there numbers j m has = go (cases_lt j (length numbers))
  where
    go : (j < length numbers) ⊎ (length numbers ≤ j) → j < length numbers
    go (inl lt) = lt
    go (inr le) = let past : slice_get numbers j ≡ None = slice_get_past numbers j le in absurd (cc)
