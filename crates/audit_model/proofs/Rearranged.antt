-- A merging that is cut in two at a consistent cut, and whose parts are taken one after the other, is a merging.
use Rattle.std.proofs.Common.{◌≡◌, ℕ, zero, suc, ◌+◌, ◌<◌, ◌≤◌, ◌⊎◌, inl, inr, Bool, true, false, not, cond, List, [], ◌∷◌, ◌++◌, Some, refl, sym, ap, ◌∙◌, subst, arith}
use Rattle.std.specs.Prelude.{Contains, nat_lt}
use Rattle.std.specs.List.{range_with_len, filter}
use Rattle.std.proofs.lemmas.Bool.{cases_lt, ltb-true, lt-ltb, le-ltb}
use Rattle.std.proofs.lemmas.List.Elements.{Contains-append_left, Contains-append_right}
use Rattle.migration_types.specs.declared.records.LogName.{LogName}
use Rattle.migration_types.specs.Sessions.{Recorded}
use Rattle.migration_types.specs.Receipts.{Name}
use Rattle.audit_model.specs.Names.{log_length, receipt, same_log}
use Rattle.audit_model.specs.Mergings.{places_of, StandsAfter, IsMerging, Cursors}
use Rattle.audit_model.specs.Delayed.{is_below, rearranged}
use Rattle.audit_model.proofs.Cuts.{places-append, contains_cons, contains_nil}
use Rattle.audit_model.proofs.Cuts.{same_from_test}
use Rattle.audit_model.proofs.Walked.{contains_here, contains_there}

-- the places of what a test on names keeps, where the test is one on places
places-filter : (l : LogName) (p : Name → Bool) (q : ℕ → Bool) → ((n : ℕ) → p (l, n) ≡ q n) → (names : List Name) → places_of l (filter p names) ≡ filter q (places_of l names)
places-filter l p q same [] = refl
places-filter l p q same (x ∷ names) = go (same_log x.0 l) refl (p x) refl (places-filter l p q same names)
  where
    go : (t : Bool) → same_log x.0 l ≡ t → (b : Bool) → p x ≡ b → places_of l (filter p names) ≡ filter q (places_of l names) → places_of l (cond b (x ∷ filter p names) (filter p names)) ≡ filter q (cond t (x.1 ∷ places_of l names) (places_of l names))
    go true is true keep rec =
        let log = same_from_test x.0 l is in
        let at : x ≡ (l, x.1) = λ i. (log i, x.1) in
        let keeps : q x.1 ≡ true = sym (same x.1) ∙ ap p (sym at) ∙ keep in
        ap (λ t. cond t (x.1 ∷ places_of l (filter p names)) (places_of l (filter p names))) is
        ∙ ap (λ xs. x.1 ∷ xs) rec
        ∙ sym (ap (λ b. cond b (x.1 ∷ filter q (places_of l names)) (filter q (places_of l names))) keeps)
    go true is false keep rec =
        let log = same_from_test x.0 l is in
        let at : x ≡ (l, x.1) = λ i. (log i, x.1) in
        let keeps : q x.1 ≡ false = sym (same x.1) ∙ ap p (sym at) ∙ keep in
        rec ∙ sym (ap (λ b. cond b (x.1 ∷ filter q (places_of l names)) (filter q (places_of l names))) keeps)
    go false is true keep rec = ap (λ t. cond t (x.1 ∷ places_of l (filter p names)) (places_of l (filter p names))) is ∙ rec
    go false is false keep rec = rec

none_below : (k a n : ℕ) → k ≤ a → filter (λ x. nat_lt x k) (range_with_len a n) ≡ []
none_below k a zero le = refl
none_below k a (suc n) le = ap (λ b. cond b (a ∷ filter (λ x. nat_lt x k) (range_with_len (a + 1) n)) (filter (λ x. nat_lt x k) (range_with_len (a + 1) n))) (le-ltb a k le) ∙ none_below k (a + 1) n (omega arith)

-- a row of numbers, cut in two
range_cut : (k a n : ℕ) → filter (λ x. nat_lt x k) (range_with_len a n) ++ filter (λ x. not (nat_lt x k)) (range_with_len a n) ≡ range_with_len a n
range_cut k a zero = refl
range_cut k a (suc n) = go (cases_lt a k) (range_cut k (a + 1) n)
  where
    F : List ℕ
    F = filter (λ x. nat_lt x k) (range_with_len (a + 1) n)

    G : List ℕ
    G = filter (λ x. not (nat_lt x k)) (range_with_len (a + 1) n)

    go : (a < k) ⊎ (k ≤ a) → F ++ G ≡ range_with_len (a + 1) n → cond (nat_lt a k) (a ∷ F) F ++ cond (not (nat_lt a k)) (a ∷ G) G ≡ a ∷ range_with_len (a + 1) n
    go (inl lt) rec = ap (λ b. cond b (a ∷ F) F ++ cond (not b) (a ∷ G) G) (lt-ltb a k lt) ∙ ap (λ xs. a ∷ xs) rec
    go (inr le) rec =
        let empty : F ≡ [] = none_below k (a + 1) n (omega arith) in
        let all : G ≡ range_with_len (a + 1) n = sym (ap (λ xs. xs ++ G) empty) ∙ rec in
        ap (λ b. cond b (a ∷ F) F ++ cond (not b) (a ∷ G) G) (le-ltb a k le) ∙ ap (λ xs. xs ++ a ∷ G) empty ∙ ap (λ xs. a ∷ xs) all

-- where a name stands in what a test keeps, it stood in the list
pub filter_stands : (p : Name → Bool) (order kept : List Name) (name : Name) (rest : List Name) → filter p order ≡ kept ++ name ∷ rest → (past : List Name) × StandsAfter order past name × (kept ≡ filter p past) × (p name ≡ true)
filter_stands p [] kept name rest e = none kept e
  where
    none : (kept : List Name) → [] ≡ kept ++ name ∷ rest → (past : List Name) × StandsAfter [] past name × (kept ≡ filter p past) × (p name ≡ true)
    none [] e = absurd (cc)
    none (x ∷ kept) e = absurd (cc)
filter_stands p (x ∷ order) kept name rest e = go (λ kept e. filter_stands p order kept name rest e) (p x) refl kept e
  where
    go : ((kept : List Name) → filter p order ≡ kept ++ name ∷ rest → (past : List Name) × StandsAfter order past name × (kept ≡ filter p past) × (p name ≡ true)) → (b : Bool) → p x ≡ b → (kept : List Name) → cond b (x ∷ filter p order) (filter p order) ≡ kept ++ name ∷ rest → (past : List Name) × StandsAfter (x ∷ order) past name × (kept ≡ filter p past) × (p name ≡ true)
    go rec false is kept e =
        let r = rec kept e in
        (x ∷ r.0, (r.1.0, ap (λ xs. x ∷ xs) r.1.1), r.2 ∙ sym (ap (λ b. cond b (x ∷ filter p r.0) (filter p r.0)) is), r.3)
    go rec true is [] e =
        let same : x ≡ name = cc in
        ([], (order, ap (λ y. y ∷ order) same), refl, sym (ap p same) ∙ is)
    go rec true is (y ∷ kept) e =
        let same : x ≡ y = cc in
        let tail : filter p order ≡ kept ++ name ∷ rest = cc in
        let r = rec kept tail in
        (x ∷ r.0, (r.1.0, ap (λ xs. x ∷ xs) r.1.1), ap (λ xs. y ∷ xs) r.2 ∙ ap (λ z. z ∷ filter p r.0) (sym same) ∙ sym (ap (λ b. cond b (x ∷ filter p r.0) (filter p r.0)) is), r.3)

pub contains_filter : (p : Name → Bool) (xs : List Name) (x : Name) → Contains xs x → p x ≡ true → Contains (filter p xs) x
contains_filter p [] x h keep = contains_nil x h
contains_filter p (y ∷ xs) x h keep = go (λ h. contains_filter p xs x h keep) (p y) refl (contains_cons y x xs h)
  where
    go : (Contains xs x → Contains (filter p xs) x) → (b : Bool) → p y ≡ b → (y ≡ x) ⊎ Contains xs x → Contains (cond b (y ∷ filter p xs) (filter p xs)) x
    go rec true is (inl same) = subst (λ z. Contains (z ∷ filter p xs) x) (sym same) (contains_here x (filter p xs))
    go rec true is (inr h) = contains_there y x (filter p xs) (rec h)
    go rec false is (inl same) = absurd (let e = sym (ap p same) ∙ is in cc)
    go rec false is (inr h) = rec h

-- a place in two lists that are joined
pub append_stands : (F G kept : List Name) (name : Name) (rest : List Name) → F ++ G ≡ kept ++ name ∷ rest → ((r : List Name) × (F ≡ kept ++ name ∷ r)) ⊎ ((k : List Name) × (kept ≡ F ++ k) × (G ≡ k ++ name ∷ rest))
append_stands [] G kept name rest e = inr (kept, refl, e)
append_stands (x ∷ F) G [] name rest e = let same : x ≡ name = cc in inl (F, ap (λ y. y ∷ F) same)
append_stands (x ∷ F) G (y ∷ kept) name rest e = go (append_stands F G kept name rest (cc))
  where
    same : x ≡ y
    same = cc

    go : ((r : List Name) × (F ≡ kept ++ name ∷ r)) ⊎ ((k : List Name) × (kept ≡ F ++ k) × (G ≡ k ++ name ∷ rest)) → ((r : List Name) × (x ∷ F ≡ (y ∷ kept) ++ name ∷ r)) ⊎ ((k : List Name) × (y ∷ kept ≡ (x ∷ F) ++ k) × (G ≡ k ++ name ∷ rest))
    go (inl a) = inl (a.0, cc)
    go (inr b) = inr (b.0, cc, b.2)

module _ (s : Recorded) (cut : Cursors) (closed : (name sent : Name) → name.1 < cut name.0 → receipt s name ≡ Some sent → sent.1 < cut sent.0) (order : List Name) (merging : IsMerging s order) where
  abbrev below : List Name
  below = filter (is_below cut) order

  abbrev above : List Name
  above = filter (λ name. not (is_below cut name)) order

  row : (l : LogName) → places_of l (rearranged cut order) ≡ range_with_len 0 (log_length s l)
  row l =
      let p = is_below cut in
      let f = places-filter l p (λ k. nat_lt k (cut l)) (λ k. refl) order in
      let g = places-filter l (λ name. not (p name)) (λ k. not (nat_lt k (cut l))) (λ k. refl) order in
      places-append l (filter p order) (filter (λ name. not (p name)) order)
      ∙ ap (λ xs. xs ++ places_of l (filter (λ name. not (p name)) order)) f
      ∙ ap (λ ys. filter (λ k. nat_lt k (cut l)) (places_of l order) ++ ys) g
      ∙ ap (λ xs. filter (λ k. nat_lt k (cut l)) xs ++ filter (λ k. not (nat_lt k (cut l))) xs) (merging.each_once_in_order l)
      ∙ range_cut (cut l) 0 (log_length s l)

  sent_there : (kept : List Name) (name sent : Name) (rest : List Name) → receipt s name ≡ Some sent → ((r : List Name) × (below ≡ kept ++ name ∷ r)) ⊎ ((k : List Name) × (kept ≡ below ++ k) × (above ≡ k ++ name ∷ rest)) → Contains kept sent
  sent_there kept name sent rest is (inl a) =
      let f = filter_stands (is_below cut) order kept name a.0 a.1 in
      let low = closed name sent (ltb-true name.1 (cut name.0) f.3) is in
      subst (λ xs. Contains xs sent) (sym f.2) (contains_filter (is_below cut) f.0 sent (merging.receipts_after f.0 name sent f.1 is) (lt-ltb sent.1 (cut sent.0) low))
  sent_there kept name sent rest is (inr b) = subst (λ xs. Contains xs sent) (sym b.1) (go (is_below cut sent) refl)
    where
      f : (past : List Name) × StandsAfter order past name × (b.0 ≡ filter (λ n. not (is_below cut n)) past) × (not (is_below cut name) ≡ true)
      f = filter_stands (λ n. not (is_below cut n)) order b.0 name rest b.2

      earlier : Contains f.0 sent
      earlier = merging.receipts_after f.0 name sent f.1 is

      go : (t : Bool) → is_below cut sent ≡ t → Contains (below ++ b.0) sent
      go true low = Contains-append_left below b.0 sent (contains_filter (is_below cut) order sent (subst (λ xs. Contains xs sent) (sym f.1.1) (Contains-append_left f.0 (name ∷ f.1.0) sent earlier)) low)
      go false high = Contains-append_right below b.0 sent (subst (λ xs. Contains xs sent) (sym f.2) (contains_filter (λ n. not (is_below cut n)) f.0 sent earlier (ap not high)))

  pub rearranged_merges : IsMerging s (rearranged cut order)
  rearranged_merges = record {
    each_once_in_order = row;
    receipts_after = λ kept name sent stands is. sent_there kept name sent stands.0 is (append_stands below above kept name stands.0 stands.1);
  }
