-- What is kept of a log, and where it stands there.
use Rattle.std.proofs.Common.{◌≡◌, ℕ, zero, suc, ◌<◌, ◌≤◌, ◌⊎◌, inl, inr, Bool, true, false, ◌||◌, List, [], ◌∷◌, length, map, Option, Some, None, refl, sym, ap, ap₂, ◌∙◌, subst, arith}
use Rattle.std.specs.Prelude.{slice_get, is_some}
use Rattle.std.specs.List.{list_any}
use Rattle.std.specs.Option.{option_map}
use Rattle.std.proofs.lemmas.Option.{slice_get-map}
use Rattle.std.proofs.lemmas.Bool.{cases_lt}
use Rattle.audit_model.specs.Flat.{changed, before}
use Rattle.audit_model.specs.Windows.{kept_in, tallied, rank}

-- past the mark of the first record
pub rank_cons : (mark : Bool) (marks : List Bool) (n : ℕ) → rank (mark ∷ marks) (suc n) ≡ tallied (Some mark) (rank marks n)
rank_cons true marks zero = refl
rank_cons false marks zero = refl
rank_cons mark marks (suc n) = ap (tallied (slice_get marks n)) (rank_cons mark marks n) ∙ swap mark (slice_get marks n) (rank marks n)
  where
    swap : (a : Bool) (o : Option Bool) (k : ℕ) → tallied o (tallied (Some a) k) ≡ tallied (Some a) (tallied o k)
    swap a None k = refl
    swap true (Some true) k = refl
    swap true (Some false) k = refl
    swap false (Some true) k = refl
    swap false (Some false) k = refl

-- a record that is kept stands at its rank
pub kept_at : {A : Type 0} (marks : List Bool) (log : List A) (n : ℕ) (x : A) → slice_get log n ≡ Some x → slice_get marks n ≡ Some true → slice_get (kept_in marks log) (rank marks n) ≡ Some x
kept_at [] log n x is mark = absurd (cc)
kept_at (m ∷ marks) [] n x is mark = absurd (cc)
kept_at (true ∷ marks) (y ∷ log) zero x is mark = is
kept_at (false ∷ marks) (y ∷ log) zero x is mark = absurd (cc)
kept_at (true ∷ marks) (y ∷ log) (suc n) x is mark = ap (slice_get (y ∷ kept_in marks log)) (rank_cons true marks n) ∙ kept_at marks log n x is mark
kept_at (false ∷ marks) (y ∷ log) (suc n) x is mark = ap (slice_get (kept_in marks log)) (rank_cons false marks n) ∙ kept_at marks log n x is mark

-- and with what it became
pub new_at : {A B : Type 0} (new : A → B) (marks : List Bool) (log : List A) (n : ℕ) (x : A) → slice_get log n ≡ Some x → slice_get marks n ≡ Some true → slice_get (map new (kept_in marks log)) (rank marks n) ≡ Some (new x)
new_at new marks log n x is mark = slice_get-map new (kept_in marks log) (rank marks n) ∙ ap (option_map new) (kept_at marks log n x is mark)

-- each record has a mark, and there are no more
abbrev pub Aligned : {A : Type 0} → List Bool → List A → Type 0
Aligned marks log = (n : ℕ) → is_some (slice_get marks n) ≡ is_some (slice_get log n)

-- what is kept of a whole log is as long as the rank of its end
pub kept_length : {A : Type 0} (marks : List Bool) (log : List A) → Aligned marks log → length (kept_in marks log) ≡ rank marks (length log)
kept_length [] [] aligned = refl
kept_length [] (x ∷ log) aligned = let e : false ≡ true = aligned 0 in absurd (cc)
kept_length (m ∷ marks) [] aligned = let e : true ≡ false = aligned 0 in absurd (cc)
kept_length (true ∷ marks) (x ∷ log) aligned = ap suc (kept_length marks log (λ n. aligned (suc n))) ∙ sym (rank_cons true marks (length log))
kept_length (false ∷ marks) (x ∷ log) aligned = kept_length marks log (λ n. aligned (suc n)) ∙ sym (rank_cons false marks (length log))

-- A log has a record that passes a test where what is kept of it does, if those that pass are kept and what they become
-- passes.
pub any_kept : {A B : Type 0} (new : A → B) (marks : List Bool) (log : List A) (test : A → Bool) (new_test : B → Bool) → Aligned marks log →
    ((x : A) → new_test (new x) ≡ test x) →
    ((n : ℕ) (x : A) → slice_get log n ≡ Some x → slice_get marks n ≡ Some false → test x ≡ false) →
    list_any new_test (map new (kept_in marks log)) ≡ list_any test log
any_kept new [] [] test new_test aligned same gone = refl
any_kept new [] (x ∷ log) test new_test aligned same gone = let e : false ≡ true = aligned 0 in absurd (cc)
any_kept new (m ∷ marks) [] test new_test aligned same gone = let e : true ≡ false = aligned 0 in absurd (cc)
any_kept new (true ∷ marks) (x ∷ log) test new_test aligned same gone =
    ap₂ (λ a b. a || b) (same x) (any_kept new marks log test new_test (λ n. aligned (suc n)) same (λ n. gone (suc n)))
any_kept new (false ∷ marks) (x ∷ log) test new_test aligned same gone =
    any_kept new marks log test new_test (λ n. aligned (suc n)) same (λ n. gone (suc n)) ∙ sym (ap (λ b. b || list_any test log) (gone 0 x refl refl))

-- What a log says before a place is what its kept records say before that place's rank, where those say it as before,
-- and those that go do not change it: of what is said at that place alone.
pub fold_kept_at : {A B V : Type 0} (new : A → B) (marks : List Bool) (log : List A) (change : A → V → V) (change' : B → V → V) (start : V) → Aligned marks log →
    ((n : ℕ) (x : A) → slice_get log n ≡ Some x → slice_get marks n ≡ Some true → change' (new x) (before change start log n) ≡ change x (before change start log n)) →
    ((n : ℕ) (x : A) → slice_get log n ≡ Some x → slice_get marks n ≡ Some false → before change start log n ≡ change x (before change start log n)) →
    (n : ℕ) → before change' start (map new (kept_in marks log)) (rank marks n) ≡ before change start log n
fold_kept_at new marks log change change' start aligned same skip zero = refl
fold_kept_at {A} new marks log change change' start aligned same skip (suc n) = go (slice_get marks n) refl (slice_get log n) refl (fold_kept_at new marks log change change' start aligned same skip n)
  where
    go : (m : Option Bool) → slice_get marks n ≡ m → (o : Option A) → slice_get log n ≡ o →
        before change' start (map new (kept_in marks log)) (rank marks n) ≡ before change start log n →
        before change' start (map new (kept_in marks log)) (tallied m (rank marks n)) ≡ changed change o (before change start log n)
    go None a None b e = e
    go None a (Some x) b e = let f : false ≡ true = sym (ap is_some a) ∙ aligned n ∙ ap is_some b in absurd (cc)
    go (Some m) a None b e = let f : true ≡ false = sym (ap is_some a) ∙ aligned n ∙ ap is_some b in absurd (cc)
    go (Some true) a (Some x) b e =
        ap (λ o. changed change' o (before change' start (map new (kept_in marks log)) (rank marks n))) (new_at new marks log n x b a)
        ∙ ap (change' (new x)) e ∙ same n x b a
    go (Some false) a (Some x) b e = e ∙ skip n x b a

-- the same where it holds of all that can be said
pub fold_kept : {A B V : Type 0} (new : A → B) (marks : List Bool) (log : List A) (change : A → V → V) (change' : B → V → V) (start : V) → Aligned marks log →
    ((n : ℕ) (x : A) (v : V) → slice_get log n ≡ Some x → slice_get marks n ≡ Some true → change' (new x) v ≡ change x v) →
    ((n : ℕ) (x : A) (v : V) → slice_get log n ≡ Some x → slice_get marks n ≡ Some false → v ≡ change x v) →
    (n : ℕ) → before change' start (map new (kept_in marks log)) (rank marks n) ≡ before change start log n
fold_kept new marks log change change' start aligned same skip n =
    fold_kept_at new marks log change change' start aligned
    (λ m x is mark. same m x (before change start log m) is mark)
    (λ m x is mark. skip m x (before change start log m) is mark)
    n

-- marks by a test
pub aligned_map : {A : Type 0} (test : A → Bool) (log : List A) → Aligned (map test log) log
aligned_map test [] n = refl
aligned_map test (x ∷ log) zero = refl
aligned_map test (x ∷ log) (suc n) = aligned_map test log n

pub mark_of : {A : Type 0} (test : A → Bool) (log : List A) (n : ℕ) (x : A) (b : Bool) → slice_get log n ≡ Some x → slice_get (map test log) n ≡ Some b → test x ≡ b
mark_of test log n x b is mark = let e : Some (test x) ≡ Some b = sym (slice_get-map test log n ∙ ap (option_map test) is) ∙ mark in cc

-- the mark of a record that is kept
pub mark_is : {A : Type 0} (keeps : A → Bool) (log : List A) (n : ℕ) (x : A) → slice_get log n ≡ Some x → keeps x ≡ true → slice_get (map keeps log) n ≡ Some true
mark_is keeps log n x is e = slice_get-map keeps log n ∙ ap (option_map keeps) is ∙ ap Some e

-- what stands in what is kept came from a record that is
pub came_from : {A B : Type 0} (new : A → B) (marks : List Bool) (log : List A) (k : ℕ) (y : B) → slice_get (map new (kept_in marks log)) k ≡ Some y → (n : ℕ) × (x : A) × (slice_get log n ≡ Some x) × (slice_get marks n ≡ Some true) × (rank marks n ≡ k) × (new x ≡ y)
came_from new [] log k y is = absurd (cc)
came_from new (m ∷ marks) [] k y is = absurd (cc)
came_from new (true ∷ marks) (x ∷ log) zero y is = let e : new x ≡ y = cc in (0, x, refl, refl, refl, e)
came_from new (true ∷ marks) (x ∷ log) (suc k) y is = let r = came_from new marks log k y is in (suc r.0, r.1, r.2, r.3, rank_cons true marks r.0 ∙ ap suc r.4, r.5)
came_from new (false ∷ marks) (x ∷ log) k y is = let r = came_from new marks log k y is in (suc r.0, r.1, r.2, r.3, rank_cons false marks r.0 ∙ r.4, r.5)

-- ranks rise
tallied_up : (o : Option Bool) (k : ℕ) → k ≤ tallied o k
tallied_up None k = omega arith
tallied_up (Some true) k = omega arith
tallied_up (Some false) k = omega arith

pub rank_up : (marks : List Bool) (m n : ℕ) → m ≤ n → rank marks m ≤ rank marks n
rank_up marks m zero le = let e : m ≡ 0 = omega arith in subst (λ k. rank marks k ≤ 0) (sym e) (omega arith)
rank_up marks m (suc n) le = go (λ l. rank_up marks m n l) (cases_lt n m)
  where
    go : (m ≤ n → rank marks m ≤ rank marks n) → (n < m) ⊎ (m ≤ n) → rank marks m ≤ rank marks (suc n)
    go rec (inr l) = let a = rec l in let b = tallied_up (slice_get marks n) (rank marks n) in omega (arith, a, b)
    go rec (inl l) = let e : m ≡ suc n = omega arith in subst (λ k. rank marks m ≤ rank marks k) e (omega arith)

pub rank_next : (marks : List Bool) (n : ℕ) → slice_get marks n ≡ Some true → rank marks (suc n) ≡ suc (rank marks n)
rank_next marks n mark = ap (λ o. tallied o (rank marks n)) mark

pub rank_less : (marks : List Bool) (m n : ℕ) → slice_get marks m ≡ Some true → m < n → rank marks m < rank marks n
rank_less marks m n mark lt = let a = rank_up marks (suc m) n (omega arith) in let b = rank_next marks m mark in omega (arith, a, b)

-- so of records that are kept those that stand no later are those of no greater rank
pub rank_down : (marks : List Bool) (m n : ℕ) → slice_get marks n ≡ Some true → rank marks m ≤ rank marks n → m ≤ n
rank_down marks m n mark le = go (cases_lt n m)
  where
    go : (n < m) ⊎ (m ≤ n) → m ≤ n
    go (inr l) = l
    go (inl l) = let a = rank_less marks n m mark l in absurd (omega (arith, a))
