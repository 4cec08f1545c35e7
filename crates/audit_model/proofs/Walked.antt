-- A walk that takes each record to the end is a merging.
use Rattle.std.proofs.Common.{◌≡◌, ℕ, zero, suc, ◌+◌, ◌<◌, ◌≤◌, ◌⊎◌, inl, inr, Bool, true, false, cond, List, [], ◌∷◌, ◌++◌, length, refl, sym, ap, ◌∙◌, subst, arith}
use Rattle.std.specs.Prelude.{Contains}
use Rattle.std.specs.List.{range_with_len}
use Rattle.std.proofs.lemmas.Bool.{cases_lt}
use Rattle.std.proofs.lemmas.List.Elements.{Contains-append_right}
use Rattle.migration_types.specs.declared.records.LogName.{LogName}
use Rattle.migration_types.specs.Sessions.{Recorded}
use Rattle.migration_types.specs.Receipts.{Name}
use Rattle.audit_model.specs.Names.{log_length, same_log}
use Rattle.audit_model.specs.Mergings.{places_of, StandsAfter, IsMerging, Cursors, at_start}
use Rattle.audit_model.specs.Walks.{next, cursors_from, MayFollow, Walks, IsWholeWalk}
use Rattle.audit_model.proofs.Cuts.{cursor_next, cursor_count, from_start, same_from_test, merging_walks}

pub contains_here : (x : Name) (xs : List Name) → Contains (x ∷ xs) x
contains_here x xs = (0, omega arith, refl)

pub contains_there : (y x : Name) (xs : List Name) → Contains xs x → Contains (y ∷ xs) x
contains_there y x xs h = Contains-append_right (y ∷ []) xs x h

-- a log's places in a walk are a row of numbers from its cursor on
walk_row : (s : Recorded) (l : LogName) (c : Cursors) (names : List Name) → Walks s c names → places_of l names ≡ range_with_len (c l) (length (places_of l names))
walk_row s l c [] walks = refl
walk_row s l c (n ∷ names) walks = go (same_log n.0 l) refl (walk_row s l (next c n.0) names walks.1)
  where
    go : (b : Bool) → same_log n.0 l ≡ b → places_of l names ≡ range_with_len (next c n.0 l) (length (places_of l names)) → cond b (n.1 ∷ places_of l names) (places_of l names) ≡ range_with_len (c l) (length (cond b (n.1 ∷ places_of l names) (places_of l names)))
    go true e rec =
        let same = same_from_test n.0 l e in
        let head : n.1 ≡ c l = walks.0.is_next ∙ ap (λ k. c k) same in
        let up : next c n.0 l ≡ c l + 1 = cursor_next c n.0 l ∙ ap (λ b. cond b (suc (c l)) (c l)) e ∙ omega arith in
        let tail : places_of l names ≡ range_with_len (c l + 1) (length (places_of l names)) = rec ∙ ap (λ k. range_with_len k (length (places_of l names))) up in
        cc
    go false e rec =
        let up : next c n.0 l ≡ c l = cursor_next c n.0 l ∙ ap (λ b. cond b (suc (c l)) (c l)) e in
        rec ∙ ap (λ k. range_with_len k (length (places_of l names))) up

-- a number of the row stands for a name of the list
pub contains_place : (past : List Name) (l : LogName) (m a k : ℕ) → places_of l past ≡ range_with_len a k → a ≤ m → m < a + k → Contains past (l, m)
contains_place [] l m a zero e low high = absurd (omega arith)
contains_place [] l m a (suc k) e low high = absurd (cc)
contains_place (y ∷ ys) l m a k e low high = go (λ b j f low high. contains_place ys l m b j f low high) (same_log y.0 l) refl k e high
  where
    go : ((b j : ℕ) → places_of l ys ≡ range_with_len b j → b ≤ m → m < b + j → Contains ys (l, m)) → (t : Bool) → same_log y.0 l ≡ t → (k : ℕ) → cond t (y.1 ∷ places_of l ys) (places_of l ys) ≡ range_with_len a k → m < a + k → Contains (y ∷ ys) (l, m)
    go rec false is k e high = contains_there y (l, m) ys (rec a k e low high)
    go rec true is zero e high = absurd (omega arith)
    go rec true is (suc k) e high = at (cases_lt a m)
      where
        head : y.1 ≡ a
        head = cc

        rest : places_of l ys ≡ range_with_len (a + 1) k
        rest = cc

        at : (a < m) ⊎ (m ≤ a) → Contains (y ∷ ys) (l, m)
        at (inl lt) = contains_there y (l, m) ys (rec (a + 1) k rest (omega arith) (omega arith))
        at (inr le) =
            let place : y.1 ≡ m = omega (arith, head) in
            let log = same_from_test y.0 l is in
            let same : y ≡ (l, m) = λ i. (log i, place i) in
            subst (λ z. Contains (y ∷ ys) z) same (contains_here y ys)

module _ (s : Recorded) where
  -- at each name of a walk
  pub walk_at : (c : Cursors) (names earlier : List Name) (name : Name) → Walks s c names → StandsAfter names earlier name → Walks s c earlier × MayFollow s (cursors_from c earlier) name
  walk_at c [] [] name walks stands = absurd (let e = stands.1 in cc)
  walk_at c [] (m ∷ earlier) name walks stands = absurd (let e = stands.1 in cc)
  walk_at c (n ∷ names) [] name walks stands =
      let same : n ≡ name = let e = stands.1 in cc in
      (tt, subst (λ k. MayFollow s c k) same walks.0)
  walk_at c (n ∷ names) (m ∷ earlier) name walks stands =
      let e = stands.1 in
      let same : n ≡ m = cc in
      let rest : names ≡ earlier ++ name ∷ stands.0 = cc in
      let r = walk_at (next c n.0) names earlier name walks.1 (stands.0, rest) in
      let Q : Name → Type 0 = λ k. Walks s c (k ∷ earlier) × MayFollow s (cursors_from (next c k.0) earlier) name in
      subst Q same ((walks.0, r.0), r.1)

  -- what stands earlier is what the cursors have passed
  pub passed : (earlier : List Name) (sent : Name) → Walks s at_start earlier → sent.1 < cursors_from at_start earlier sent.0 → Contains earlier sent
  passed earlier sent walks lt =
      let k = length (places_of sent.0 earlier) in
      let count : cursors_from at_start earlier sent.0 ≡ k = cursor_count at_start earlier sent.0 ∙ from_start sent.0 k in
      let row = walk_row s sent.0 at_start earlier walks in
      contains_place earlier sent.0 sent.1 (at_start sent.0) k row (omega (arith, from_start sent.0 0)) (omega (arith, from_start sent.0 k))

  pub walk_merges : (order : List Name) → Walks s at_start order → ((l : LogName) → cursors_from at_start order l ≡ log_length s l) → IsMerging s order
  walk_merges order walks ends = record {
    each_once_in_order = λ l.
        let k = length (places_of l order) in
        let all : k ≡ log_length s l = sym (cursor_count at_start order l ∙ from_start l k) ∙ ends l in
        let base : at_start l ≡ 0 = omega (arith, from_start l 0) in
        walk_row s l at_start order walks ∙ ap (λ a. range_with_len a k) base ∙ ap (λ j. range_with_len 0 j) all;
    receipts_after = λ earlier name sent stands is.
        let r = walk_at at_start order earlier name walks stands in
        passed earlier sent r.0 (r.1.sent_before sent is);
  }

pub length_range : (a n : ℕ) → length (range_with_len a n) ≡ n
length_range a zero = refl
length_range a (suc n) = ap suc (length_range (a + 1) n)

pub merging_is_walk : (s : Recorded) (order : List Name) → IsMerging s order → IsWholeWalk s order
merging_is_walk s order merging = (merging_walks s order merging, λ l. cursor_count at_start order l ∙ from_start l (length (places_of l order)) ∙ ap (λ (xs : List ℕ). length xs) (merging.each_once_in_order l) ∙ length_range 0 (log_length s l))

pub walk_is_merging : (s : Recorded) (order : List Name) → IsWholeWalk s order → IsMerging s order
walk_is_merging s order walk = walk_merges s order walk.0 walk.1
