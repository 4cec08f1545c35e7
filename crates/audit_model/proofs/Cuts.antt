-- A merging as a walk: each name is the next one of its log, and what it is a receipt for was taken.
use Rattle.std.proofs.Common.{◌≡◌, ℕ, zero, suc, ◌+◌, ◌<◌, ◌⊎◌, inl, inr, Bool, true, false, cond, List, [], ◌∷◌, ◌++◌, length, Some, refl, sym, ap, ◌∙◌, subst, arith, append_assoc, eqb-true, eq-eqb}
use Rattle.std.specs.Prelude.{Contains, slice_get}
use Rattle.std.specs.List.{range_with_len}
use Rattle.std.proofs.lemmas.List.Elements.{Contains-append_cases, Contains-push_cases}
use Rattle.migration_types.specs.declared.records.LogName.{LogName}
use Rattle.migration_types.specs.declared.records.LogName.TheVariants.{Guest, Source, Link, Lane, Pager}
use Rattle.migration_types.specs.Sessions.{Recorded}
use Rattle.migration_types.specs.Receipts.{Name, logs, log_index}
use Rattle.audit_model.specs.Names.{log_length, same_log}
use Rattle.audit_model.specs.Mergings.{places_of, StandsAfter, IsMerging, Cursors, at_start}
use Rattle.audit_model.specs.Walks.{next, cursors_from, MayFollow, Walks}

-- each log stands at its place among the logs
pub log_there : (l : LogName) → slice_get logs (log_index l) ≡ Some l
log_there Guest = refl
log_there Source = refl
log_there Link = refl
log_there Lane = refl
log_there Pager = refl

pub same_log_itself : (l : LogName) → same_log l l ≡ true
same_log_itself l = eq-eqb (log_index l) (log_index l) refl

pub same_from_test : (l m : LogName) → same_log l m ≡ true → l ≡ m
same_from_test l m e =
    let same : Some l ≡ Some m = sym (log_there l) ∙ ap (λ n. slice_get logs n) (eqb-true (log_index l) (log_index m) e) ∙ log_there m in
    cc

pub cursor_next : (c : Cursors) (l m : LogName) → next c l m ≡ cond (same_log l m) (suc (c m)) (c m)
cursor_next c l m = refl

pub cursors_push : (c : Cursors) (past : List Name) (n : Name) → cursors_from c (past ++ n ∷ []) ≡ next (cursors_from c past) n.0
cursors_push c [] n = refl
cursors_push c (m ∷ past) n = cursors_push (next c m.0) past n

cond_length : (b : Bool) (x k : ℕ) (xs : List ℕ) → cond b (suc k) k + length xs ≡ k + length (cond b (x ∷ xs) xs)
cond_length true x k xs = omega arith
cond_length false x k xs = refl

pub cursor_count : (c : Cursors) (past : List Name) (l : LogName) → cursors_from c past l ≡ c l + length (places_of l past)
cursor_count c [] l = omega arith
cursor_count c (n ∷ past) l =
    cursor_count (next c n.0) past l
    ∙ ap (λ k. k + length (places_of l past)) (cursor_next c n.0 l)
    ∙ cond_length (same_log n.0 l) n.1 (c l) (places_of l past)

cond_append : (b : Bool) (x : ℕ) (xs ys : List ℕ) → cond b (x ∷ (xs ++ ys)) (xs ++ ys) ≡ cond b (x ∷ xs) xs ++ ys
cond_append true x xs ys = refl
cond_append false x xs ys = refl

pub places-append : (l : LogName) (xs ys : List Name) → places_of l (xs ++ ys) ≡ places_of l xs ++ places_of l ys
places-append l [] ys = refl
places-append l (n ∷ xs) ys =
    ap (λ zs. cond (same_log n.0 l) (n.1 ∷ zs) zs) (places-append l xs ys)
    ∙ cond_append (same_log n.0 l) n.1 (places_of l xs) (places_of l ys)

places_own : (n : Name) (ns : List Name) → places_of n.0 (n ∷ ns) ≡ n.1 ∷ places_of n.0 ns
places_own n ns = ap (λ b. cond b (n.1 ∷ places_of n.0 ns) (places_of n.0 ns)) (same_log_itself n.0)

-- a number in a row of numbers
pub range_at : (xs ys : List ℕ) (x a n : ℕ) → xs ++ x ∷ ys ≡ range_with_len a n → (x ≡ a + length xs) × (length xs < n)
range_at [] ys x a zero e = absurd (cc)
range_at [] ys x a (suc n) e = let h : x ≡ a = cc in (omega arith, omega arith)
range_at (z ∷ xs) ys x a zero e = absurd (cc)
range_at (z ∷ xs) ys x a (suc n) e =
    let t : xs ++ x ∷ ys ≡ range_with_len (a + 1) n = cc in
    let r = range_at xs ys x (a + 1) n t in
    (omega (arith, r.0), omega (arith, r.1))

pub range_front : (xs ys : List ℕ) (a n : ℕ) → xs ++ ys ≡ range_with_len a n → xs ≡ range_with_len a (length xs)
range_front [] ys a n e = refl
range_front (z ∷ xs) ys a zero e = absurd (cc)
range_front (z ∷ xs) ys a (suc n) e =
    let h : z ≡ a = cc in
    let t : xs ++ ys ≡ range_with_len (a + 1) n = cc in
    let r = range_front xs ys (a + 1) n t in
    cc

pub contains_nil : {A : Type 0} (x : Name) → Contains [] x → A
contains_nil x h = absurd (omega (arith, h.1))

pub contains_cons : (y x : Name) (ys : List Name) → Contains (y ∷ ys) x → (y ≡ x) ⊎ Contains ys x
contains_cons y x ys h = cases (Contains-append_cases (y ∷ []) ys x h)
  where
    one : Contains {X = Name} [] x ⊎ (y ≡ x) → (y ≡ x) ⊎ Contains ys x
    one (inl z) = contains_nil x z
    one (inr e) = inl e

    cases : Contains (y ∷ []) x ⊎ Contains ys x → (y ≡ x) ⊎ Contains ys x
    cases (inl a) = one (Contains-push_cases [] y x a)
    cases (inr b) = inr b

pub below_count : (past : List Name) (l : LogName) (m a n : ℕ) → places_of l past ≡ range_with_len a n → Contains past (l, m) → m < a + n
below_count [] l m a n e h = contains_nil (l, m) h
below_count (y ∷ ys) l m a n e h = go (λ b k t c. below_count ys l m b k t c) (same_log y.0 l) refl n e (contains_cons y (l, m) ys h)
  where
    own : (b : Bool) → same_log y.0 l ≡ b → y ≡ (l, m) → b ≡ true
    own b is same = sym is ∙ ap (λ (z : Name). same_log z.0 l) same ∙ same_log_itself l

    go : ((b k : ℕ) → places_of l ys ≡ range_with_len b k → Contains ys (l, m) → m < b + k) → (b : Bool) → same_log y.0 l ≡ b → (n : ℕ) → cond b (y.1 ∷ places_of l ys) (places_of l ys) ≡ range_with_len a n → (y ≡ (l, m)) ⊎ Contains ys (l, m) → m < a + n
    go rec true is zero e h = absurd (cc)
    go rec true is (suc n) e (inl same) =
        let f : y.1 ≡ a = cc in
        let g : m ≡ y.1 = ap (λ (z : Name). z.1) (sym same) in
        omega arith
    go rec true is (suc n) e (inr later) =
        let t : places_of l ys ≡ range_with_len (a + 1) n = cc in
        omega (arith, rec (a + 1) n t later)
    go rec false is n e (inl same) = let f = own false is same in absurd (cc)
    go rec false is n e (inr later) = rec a n e later

pub from_start : (l : LogName) (k : ℕ) → at_start l + k ≡ k
from_start l k = omega arith

module _ (s : Recorded) where
  -- what a merging says of a name that stands after the past
  pub may_follow : (past : List Name) (n : Name) (ns : List Name) → IsMerging s (past ++ n ∷ ns) → MayFollow s (cursors_from at_start past) n
  may_follow past n ns m =
      let c = cursors_from at_start past in
      let row : (l : LogName) → places_of l past ++ places_of l (n ∷ ns) ≡ range_with_len 0 (log_length s l) = λ l. sym (places-append l past (n ∷ ns)) ∙ m.each_once_in_order l in
      let own : places_of n.0 past ++ n.1 ∷ places_of n.0 ns ≡ range_with_len 0 (log_length s n.0) = ap (λ ys. places_of n.0 past ++ ys) (sym (places_own n ns)) ∙ row n.0 in
      let at = range_at (places_of n.0 past) (places_of n.0 ns) n.1 0 (log_length s n.0) own in
      let count : (l : LogName) → c l ≡ length (places_of l past) = λ l. cursor_count at_start past l ∙ from_start l (length (places_of l past)) in
      record {
        is_next = at.0 ∙ omega arith ∙ sym (count n.0);
        is_there = omega (arith, at.0, at.1);
        sent_before = λ sent is. omega (arith, count sent.0, below_count past sent.0 sent.1 0 (length (places_of sent.0 past)) (range_front (places_of sent.0 past) (places_of sent.0 (n ∷ ns)) 0 (log_length s sent.0) (row sent.0)) (m.receipts_after past n sent (ns, refl) is));
      }

  walks : (past names : List Name) → IsMerging s (past ++ names) → Walks s (cursors_from at_start past) names
  walks past [] m = tt
  walks past (n ∷ ns) m =
      let e : past ++ n ∷ ns ≡ (past ++ n ∷ []) ++ ns = sym (append_assoc past (n ∷ []) ns) in
      let r = walks (past ++ n ∷ []) ns (subst (λ order. IsMerging s order) e m) in
      (may_follow past n ns m, subst (λ c. Walks s c ns) (cursors_push at_start past n) r)

  pub merging_walks : (order : List Name) → IsMerging s order → Walks s at_start order
  merging_walks order m = walks [] order m

  -- the cursors before a record of a merging are past each record before it
  pub taken_before : (order : List Name) → IsMerging s order → (past : List Name) (name : Name) → StandsAfter order past name → (l : LogName) (m : ℕ) → Contains past (l, m) → m < cursors_from at_start past l
  taken_before order merging past name stands l m h =
      let row = range_front (places_of l past) (places_of l (name ∷ stands.0)) 0 (log_length s l) (sym (places-append l past (name ∷ stands.0)) ∙ ap (places_of l) (sym stands.1) ∙ merging.each_once_in_order l) in
      omega (arith, below_count past l m 0 _ row h, cursor_count at_start past l, from_start l (length (places_of l past)))
