-- Logs that grow at their end, and queues.
use Rattle.audit_model.proofs.History.{earlier_true, earlier_witness}
use Rattle.audit_model.specs.Flat.{before, changed}
use Rattle.audit_model.specs.Shape.{earlier, passes}
use Rattle.audit_model.specs.World.{start}
use Rattle.page_store.specs.Tables.{with_value}
use Rattle.std.proofs.Common.{Bool, List, None, Option, Some, [], ap, arith, cond, false, inl, inr, length, not, refl, subst, suc, sym, true, zero, ℕ, ◌&&◌, ◌++◌, ◌<◌, ◌||◌, ◌∙◌, ◌∷◌, ◌≡◌, ◌≤◌, ◌⊎◌}
use Rattle.std.specs.List.{AllByRecursion, filter}
use Rattle.std.specs.Prelude.{is_some, map, slice_get, slice_set, ◌==◌}

-- what holds of each record, with its place
abbrev pub AllAt : {A : Type 0} → (ℕ → A → Type 0) → List A → Type 0
AllAt {A} P log = (n : ℕ) (x : A) → slice_get log n ≡ Some x → P n x

pub length_suc : {A : Type 0} (xs : List A) (x : A) → length (xs ++ x ∷ []) ≡ suc (length xs)
length_suc [] x = refl
length_suc (y ∷ xs) x = ap suc (length_suc xs x)

pub get_old : {A : Type 0} (xs ys : List A) (n : ℕ) (y : A) → slice_get xs n ≡ Some y → slice_get (xs ++ ys) n ≡ Some y
get_old [] ys n y e = absurd (cc)
get_old (x ∷ xs) ys zero y e = e
get_old (x ∷ xs) ys (suc n) y e = get_old xs ys n y e

pub get_new : {A : Type 0} (xs : List A) (x : A) → slice_get (xs ++ x ∷ []) (length xs) ≡ Some x
get_new [] x = refl
get_new (y ∷ xs) x = get_new xs x

pub get_push : {A : Type 0} (xs : List A) (x : A) (n : ℕ) (y : A) → slice_get (xs ++ x ∷ []) n ≡ Some y → (slice_get xs n ≡ Some y) ⊎ ((n ≡ length xs) × (x ≡ y))
get_push [] x zero y e = inr (refl, (let e = e in cc))
get_push [] x (suc n) y e = absurd (cc)
get_push (z ∷ xs) x zero y e = inl e
get_push {A} (z ∷ xs) x (suc n) y e = up (get_push xs x n y e)
  where
    up : (slice_get xs n ≡ Some y) ⊎ ((n ≡ length xs) × (x ≡ y)) → (slice_get xs n ≡ Some y) ⊎ ((suc n ≡ suc (length xs)) × (x ≡ y))
    up (inl h) = inl h
    up (inr h) = inr (ap suc h.0, h.1)

get_same : {A : Type 0} (xs ys : List A) (n : ℕ) → n < length xs → slice_get (xs ++ ys) n ≡ slice_get xs n
get_same [] ys n lt = absurd (omega arith)
get_same (x ∷ xs) ys zero lt = refl
get_same (x ∷ xs) ys (suc n) lt = get_same xs ys n (omega arith)

-- what stands before a record of the log is as it was
pub before_push : {A B : Type 0} (change : A → B → B) (start : B) (xs ys : List A) (n : ℕ) → n ≤ length xs → before change start (xs ++ ys) n ≡ before change start xs n
before_push change start xs ys zero le = refl
before_push change start xs ys (suc n) le =
    ap (λ o. changed change o (before change start (xs ++ ys) n)) (get_same xs ys n (omega arith))
    ∙ ap (λ b. changed change (slice_get xs n) b) (before_push change start xs ys n (omega arith))

pub before_end : {A B : Type 0} (change : A → B → B) (start : B) (xs : List A) (x : A) → before change start (xs ++ x ∷ []) (length (xs ++ x ∷ [])) ≡ change x (before change start xs (length xs))
before_end change start xs x =
    ap (λ n. before change start (xs ++ x ∷ []) n) (length_suc xs x)
    ∙ ap (λ o. changed change o (before change start (xs ++ x ∷ []) (length xs))) (get_new xs x)
    ∙ ap (λ b. change x b) (before_push change start xs (x ∷ []) (length xs) (omega arith))

-- each record of a log that has grown by one
pub all_push : {A : Type 0} (P Q : ℕ → A → Type 0) (xs : List A) (x : A) → AllAt P xs → ((n : ℕ) (y : A) → slice_get xs n ≡ Some y → P n y → Q n y) → Q (length xs) x → AllAt Q (xs ++ x ∷ [])
all_push {A} P Q xs x all kept here n y e = go (get_push xs x n y e)
  where
    go : (slice_get xs n ≡ Some y) ⊎ ((n ≡ length xs) × (x ≡ y)) → Q n y
    go (inl h) = kept n y h (all n y h)
    go (inr h) = subst (λ k. Q k y) (sym h.0) (subst (λ z. Q (length xs) z) h.1 here)

pub each_push : {A : Type 0} (P : A → Type 0) (xs : List A) (x : A) → AllByRecursion P xs → P x → AllByRecursion P (xs ++ x ∷ [])
each_push P [] x all here = (here, tt)
each_push P (y ∷ xs) x all here = (all.0, each_push P xs x all.1 here)

pub each_weaker : {A : Type 0} (P Q : A → Type 0) → ((x : A) → P x → Q x) → (xs : List A) → AllByRecursion P xs → AllByRecursion Q xs
each_weaker P Q kept [] all = tt
each_weaker P Q kept (x ∷ xs) all = (kept x all.0, each_weaker P Q kept xs all.1)

pub passes_stays : {A : Type 0} (test other : A → Bool) (xs ys : List A) (n : ℕ) → ((x : A) → slice_get xs n ≡ Some x → slice_get ys n ≡ Some x) → ((x : A) → test x ≡ true → other x ≡ true) → passes test (slice_get xs n) ≡ true → passes other (slice_get ys n) ≡ true
passes_stays {A} test other xs ys n stays kept e = go (slice_get xs n) refl e
  where
    go : (o : Option A) → slice_get xs n ≡ o → passes test o ≡ true → passes other (slice_get ys n) ≡ true
    go None is e = absurd (cc)
    go (Some x) is e = ap (λ o. passes other o) (stays x is) ∙ kept x e

pub some_stays : {A : Type 0} (xs ys : List A) (n : ℕ) → ((x : A) → slice_get xs n ≡ Some x → slice_get ys n ≡ Some x) → is_some (slice_get xs n) ≡ true → is_some (slice_get ys n) ≡ true
some_stays {A} xs ys n stays e = go (slice_get xs n) refl e
  where
    go : (o : Option A) → slice_get xs n ≡ o → is_some o ≡ true → is_some (slice_get ys n) ≡ true
    go None is e = absurd (cc)
    go (Some x) is e = ap is_some (stays x is)

pub passes_at : {A : Type 0} (test : A → Bool) (xs : List A) (n : ℕ) (x : A) → slice_get xs n ≡ Some x → test x ≡ true → passes test (slice_get xs n) ≡ true
passes_at test xs n x is e = ap (λ o. passes test o) is ∙ e

pub earlier_stays : {A : Type 0} (test other : A → Bool) (xs ys : List A) (n : ℕ) → ((m : ℕ) (x : A) → slice_get xs m ≡ Some x → slice_get ys m ≡ Some x) → ((x : A) → test x ≡ true → other x ≡ true) → earlier test xs n ≡ true → earlier other ys n ≡ true
earlier_stays test other xs ys n stays kept e =
    let w = earlier_witness test xs n e in
    earlier_true other ys w.0 n w.1 (stays w.0 w.1 w.3) (kept w.1 w.4) w.2

-- where each key has a record of its own
pub record Index {A : Type 0} (test : ℕ → A → Bool) (map : ℕ → Option ℕ) (log : List A) : Type 0 where
  pub found : (p k : ℕ) → map p ≡ Some k → (r : A) × (slice_get log k ≡ Some r) × (test p r ≡ true)
  pub none : (p : ℕ) → map p ≡ None → earlier (test p) log (length log) ≡ false

pub index_other : {A : Type 0} (test : ℕ → A → Bool) (map : ℕ → Option ℕ) (log : List A) (x : A) → ((p : ℕ) → test p x ≡ false) → Index test map log → Index test map (log ++ x ∷ [])
index_other test map log x other i = record {
  found = λ p k e. let w = i.found p k e in (w.0, get_old log (x ∷ []) k w.0 w.1, w.2);
  none = λ p e. before_end (λ y found. test p y || found) false log x ∙ ap (λ b. b || earlier (test p) log (length log)) (other p) ∙ i.none p e;
}

pub index_key : {A : Type 0} (test : ℕ → A → Bool) (map : ℕ → Option ℕ) (log : List A) (x : A) (q : ℕ) → ((p : ℕ) → test p x ≡ (q == p)) → Index test map log → Index test (with_value q (Some (length log)) map) (log ++ x ∷ [])
index_key {A} test map log x q key i = record {
  found = λ p k e. found p k (q == p) refl e;
  none = λ p e. none p (q == p) refl e;
}
  where
    found : (p k : ℕ) (b : Bool) → (q == p) ≡ b → cond b (Some (length log)) (map p) ≡ Some k → (r : A) × (slice_get (log ++ x ∷ []) k ≡ Some r) × (test p r ≡ true)
    found p k true is e =
        let same : length log ≡ k = cc in
        (x, subst (λ n. slice_get (log ++ x ∷ []) n ≡ Some x) same (get_new log x), key p ∙ is)
    found p k false is e = let w = i.found p k e in (w.0, get_old log (x ∷ []) k w.0 w.1, w.2)

    none : (p : ℕ) (b : Bool) → (q == p) ≡ b → cond b (Some (length log)) (map p) ≡ None → earlier (test p) (log ++ x ∷ []) (length (log ++ x ∷ [])) ≡ false
    none p true is e = absurd (cc)
    none p false is e = before_end (λ y found. test p y || found) false log x ∙ ap (λ b. b || earlier (test p) log (length log)) (key p ∙ is) ∙ i.none p e

pub each_set : {A : Type 0} (P : A → Type 0) (xs : List A) (i : ℕ) (x : A) → AllByRecursion P xs → P x → AllByRecursion P (slice_set xs i x)
each_set P [] i x all here = tt
each_set P (y ∷ xs) zero x all here = (here, all.1)
each_set P (y ∷ xs) (suc i) x all here = (all.0, each_set P xs i x all.1 here)

pub length_set : {A : Type 0} (xs : List A) (i : ℕ) (x : A) → length (slice_set xs i x) ≡ length xs
length_set [] i x = refl
length_set (y ∷ xs) zero x = refl
length_set (y ∷ xs) (suc i) x = ap suc (length_set xs i x)

pub each_kept : {A : Type 0} (P : A → Type 0) (test : A → Bool) (xs : List A) → AllByRecursion P xs → AllByRecursion P (filter test xs)
each_kept P test [] all = tt
each_kept {A} P test (x ∷ xs) all = go (test x) (each_kept P test xs all.1)
  where
    go : (b : Bool) → AllByRecursion P (filter test xs) → AllByRecursion P (cond b (x ∷ filter test xs) (filter test xs))
    go true rest = (all.0, rest)
    go false rest = rest

pub each_mapped : {A : Type 0} (P : A → Type 0) (f : A → A) → ((x : A) → P x → P (f x)) → (xs : List A) → AllByRecursion P xs → AllByRecursion P (map f xs)
each_mapped P f kept [] all = tt
each_mapped P f kept (x ∷ xs) all = (kept x all.0, each_mapped P f kept xs all.1)

-- what holds of each record holds of the list
pub all_each : {A : Type 0} (P : A → Type 0) (xs : List A) → AllAt (λ n x. P x) xs → AllByRecursion P xs
all_each P [] all = tt
all_each P (x ∷ xs) all = (all 0 x refl, all_each P xs (λ n y e. all (suc n) y e))

pub append_nil : {A : Type 0} (xs : List A) → xs ++ [] ≡ xs
append_nil [] = refl
append_nil (x ∷ xs) = ap (λ ys. x ∷ ys) (append_nil xs)

pub append_two : {A : Type 0} (xs : List A) (a b : A) → xs ++ (a ∷ b ∷ []) ≡ (xs ++ a ∷ []) ++ b ∷ []
append_two [] a b = refl
append_two (x ∷ xs) a b = ap (λ ys. x ∷ ys) (append_two xs a b)

pub nothing : {A : Type 0} (m : ℕ) (y : A) → slice_get [] m ≡ Some y → {B : Type 0} → B
nothing m y e = absurd (cc)

pub and_left : (x y : Bool) → (x && y) ≡ true → x ≡ true
and_left true y e = refl
and_left false y e = absurd (cc)

pub and_right : (x y : Bool) → (x && y) ≡ true → y ≡ true
and_right true y e = e
and_right false y e = absurd (cc)

pub and_both : (x y : Bool) → x ≡ true → y ≡ true → (x && y) ≡ true
and_both true y e f = f
and_both false y e f = absurd (cc)

pub not_true : (x : Bool) → not x ≡ true → x ≡ false
not_true true e = absurd (cc)
not_true false e = refl

pub not_some : {A : Type 0} (o : Option A) → not (is_some o) ≡ true → o ≡ None
not_some None e = refl
not_some (Some x) e = absurd (cc)
