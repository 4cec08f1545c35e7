-- What depends on a placement lies above a cut, which one pass over a merging finds.
use Rattle.std.proofs.Common.{◌≡◌, ℕ, suc, ◌<◌, ◌≤◌, ◌⊎◌, inl, inr, Bool, true, false, cond, List, [], ◌∷◌, ◌++◌, Option, Some, None, refl, sym, ap, ◌∙◌, subst, arith}
use Rattle.std.proofs.lemmas.Bool.{cases_lt, ltb-true, ltb-false, le-ltb}
use Rattle.migration_types.specs.declared.records.LogName.{LogName}
use Rattle.migration_types.specs.declared.records.LogName.TheVariants.{Guest, Source, Link, Lane, Pager}
use Rattle.migration_types.specs.Sessions.{Recorded}
use Rattle.migration_types.specs.Receipts.{Name}
use Rattle.audit_model.specs.Names.{log_length, receipt, same_log}
use Rattle.audit_model.specs.Mergings.{StandsAfter, IsMerging, Cursors, at_start}
use Rattle.audit_model.specs.Delayed.{IsDelayed, itself, later, receives, is_below, rearranged, IsDelayedOrder}
use Rattle.audit_model.specs.Walks.{next, cursors_from, Walks}
use Rattle.audit_model.proofs.Cuts.{cursor_next, same_from_test, merging_walks, same_log_itself, may_follow}
use Rattle.audit_model.proofs.Consistent.{next_rises}
use Rattle.audit_model.proofs.Walked.{walk_at}
use Rattle.audit_model.proofs.Late.{stands_somewhere, receipt_there}

-- a cut with one set anew
abbrev with_cursor : Cursors → LogName → ℕ → Cursors
with_cursor c l n m = cond (same_log l m) n (c m)

with_cursor_is : (c : Cursors) (l m : LogName) (n : ℕ) → with_cursor c l n m ≡ cond (same_log l m) n (c m)
with_cursor_is c l m n = refl

-- whether the record that is named lies above the cut
abbrev names_above : Cursors → Option Name → Bool
names_above d None = false
names_above d (Some sent) = cond (is_below d sent) false true

-- a record below the cut that receives one above it lowers the cut to itself
abbrev lowered : Recorded → Cursors → Name → Cursors
lowered s d n = cond (names_above d (receipt s n)) (cond (is_below d n) (with_cursor d n.0 n.1) d) d

abbrev cut_of : Recorded → Cursors → List Name → Cursors
cut_of s d [] = d
cut_of s d (n ∷ ns) = cut_of s (lowered s d n) ns

cut_append : (s : Recorded) (d : Cursors) (xs ys : List Name) → cut_of s d (xs ++ ys) ≡ cut_of s (cut_of s d xs) ys
cut_append s d [] ys = refl
cut_append s d (x ∷ xs) ys = cut_append s (lowered s d x) xs ys

-- what one record does to a cursor: nothing, or, where it was below, it lowers its own log's to itself
lowered_cases : (s : Recorded) (d : Cursors) (n : Name) (l : LogName) → (lowered s d n l ≡ d l) ⊎ ((n.0 ≡ l) × (lowered s d n l ≡ n.1) × (n.1 < d l))
lowered_cases s d n l = go (names_above d (receipt s n)) (is_below d n) refl
  where
    at_log : (t : Bool) → same_log n.0 l ≡ t → is_below d n ≡ true → (with_cursor d n.0 n.1 l ≡ d l) ⊎ ((n.0 ≡ l) × (with_cursor d n.0 n.1 l ≡ n.1) × (n.1 < d l))
    at_log true e low =
        let same = same_from_test n.0 l e in
        let lt : n.1 < d l = subst (λ k. n.1 < d k) same (ltb-true n.1 (d n.0) low) in
        inr (same, with_cursor_is d n.0 l n.1 ∙ ap (λ b. cond b n.1 (d l)) e, lt)
    at_log false e low = inl (with_cursor_is d n.0 l n.1 ∙ ap (λ b. cond b n.1 (d l)) e)

    go : (a b : Bool) → is_below d n ≡ b → (cond a (cond b (with_cursor d n.0 n.1) d) d l ≡ d l) ⊎ ((n.0 ≡ l) × (cond a (cond b (with_cursor d n.0 n.1) d) d l ≡ n.1) × (n.1 < d l))
    go true true low = at_log (same_log n.0 l) refl low
    go true false low = inl refl
    go false b low = inl refl

cut_falls : (s : Recorded) (d : Cursors) (names : List Name) (l : LogName) → cut_of s d names l ≤ d l
cut_falls s d [] l = omega arith
cut_falls s d (n ∷ names) l = go (cut_falls s (lowered s d n) names l) (lowered_cases s d n l)
  where
    go : cut_of s (lowered s d n) names l ≤ lowered s d n l → (lowered s d n l ≡ d l) ⊎ ((n.0 ≡ l) × (lowered s d n l ≡ n.1) × (n.1 < d l)) → cut_of s (lowered s d n) names l ≤ d l
    go rec (inl e) = omega arith
    go rec (inr e) = omega (arith, e.1, e.2)

-- what the walk has passed is above the last cut only if it is above this one
cut_settled : (s : Recorded) (c d : Cursors) (names : List Name) (l : LogName) (k : ℕ) → Walks s c names → k < c l → cut_of s d names l ≤ k → d l ≤ k
cut_settled s c d [] l k walks lt le = le
cut_settled s c d (n ∷ names) l k walks lt le = go (cut_settled s (next c n.0) (lowered s d n) names l k walks.1 (omega (arith, next_rises c n.0 l)) le) (lowered_cases s d n l)
  where
    go : lowered s d n l ≤ k → (lowered s d n l ≡ d l) ⊎ ((n.0 ≡ l) × (lowered s d n l ≡ n.1) × (n.1 < d l)) → d l ≤ k
    go rec (inl e) = omega arith
    go rec (inr e) =
        let at : n.1 ≡ c l = walks.0.is_next ∙ ap (λ m. c m) e.0 in
        absurd (omega (arith, e.1))

module _ (s : Recorded) (order : List Name) (merging : IsMerging s order) (place : ℕ) where
  -- before the pass the placement and what is later in its log lie above
  first_cut : Cursors
  first_cut = with_cursor (log_length s) Pager place

  IsSound : Cursors → Type 0
  IsSound d = (name : Name) → name.1 < log_length s name.0 → d name.0 ≤ name.1 → IsDelayed s (Pager, place) name

  first_sound : IsSound first_cut
  unfolding first_cut IsSound
  first_sound (Guest, n) lt le = absurd (omega arith)
  first_sound (Source, n) lt le = absurd (omega arith)
  first_sound (Link, n) lt le = absurd (omega arith)
  first_sound (Lane, n) lt le = absurd (omega arith)
  first_sound (Pager, n) lt le = go (cases_lt place n)
    where
      go : (place < n) ⊎ (n ≤ place) → IsDelayed s (Pager, place) (Pager, n)
      go (inl more) = later itself refl more
      go (inr less) = let e : place ≡ n = omega arith in subst (λ k. IsDelayed s (Pager, place) (Pager, k)) e itself

  lowered_sound : (d : Cursors) (n : Name) → n.1 < log_length s n.0 → ((sent : Name) → receipt s n ≡ Some sent → sent.1 < log_length s sent.0) → IsSound d → IsSound (lowered s d n)
  unfolding IsSound
  lowered_sound d n there sent_there sound name lt le = go (receipt s n) refl (is_below d n) refl le
    where
      at : (t : Bool) → same_log n.0 name.0 ≡ t → (sent : Name) → receipt s n ≡ Some sent → d sent.0 ≤ sent.1 → cond t n.1 (d name.0) ≤ name.1 → IsDelayed s (Pager, place) name
      at false e sent is high le = sound name lt le
      at true e sent is high le =
          let same = same_from_test n.0 name.0 e in
          let delayed : IsDelayed s (Pager, place) n = receives (sound sent (sent_there sent is) high) is in
          by delayed (cases_lt n.1 name.1)
        where
          by : IsDelayed s (Pager, place) n → (n.1 < name.1) ⊎ (name.1 ≤ n.1) → IsDelayed s (Pager, place) name
          by delayed (inl more) = later delayed (sym (same_from_test n.0 name.0 e)) more
          by delayed (inr less) =
              let k : n.1 ≡ name.1 = omega arith in
              let log = same_from_test n.0 name.0 e in
              let same : n ≡ name = λ i. (log i, k i) in
              subst (λ z. IsDelayed s (Pager, place) z) same delayed

      high_from : (sent : Name) (t : Bool) → is_below d sent ≡ t → cond t false true ≡ true → d sent.0 ≤ sent.1
      high_from sent true e f = absurd (cc)
      high_from sent false e f = ltb-false sent.1 (d sent.0) e

      above : (sent : Name) → receipt s n ≡ Some sent → (a : Bool) → cond (is_below d sent) false true ≡ a → (b : Bool) → cond a (cond b (with_cursor d n.0 n.1) d) d name.0 ≤ name.1 → IsDelayed s (Pager, place) name
      above sent is true f true le = at (same_log n.0 name.0) refl sent is (high_from sent (is_below d sent) refl f) (subst (λ k. k ≤ name.1) (with_cursor_is d n.0 name.0 n.1) le)
      above sent is true f false le = sound name lt le
      above sent is false f b le = sound name lt le

      go : (o : Option Name) → receipt s n ≡ o → (b : Bool) → is_below d n ≡ b → cond (names_above d o) (cond b (with_cursor d n.0 n.1) d) d name.0 ≤ name.1 → IsDelayed s (Pager, place) name
      go None is b e le = sound name lt le
      go (Some sent) is b e le = above sent is (cond (is_below d sent) false true) refl b le

  named_there : (name sent : Name) → receipt s name ≡ Some sent → sent.1 < log_length s sent.0
  named_there name sent named =
      let stands = stands_somewhere s order merging name (receipt_there s name sent named) in
      let at = walk_at s at_start order stands.0 name (merging_walks s order merging) stands.1 in
      below_end sent stands.0 name at.0 (at.1.sent_before sent named)
    where
      below_end : (sent : Name) (past : List Name) (name : Name) → Walks s at_start past → sent.1 < cursors_from at_start past sent.0 → sent.1 < log_length s sent.0
      below_end sent past name walks lt = omega (arith, within at_start past (λ l. omega arith) walks sent.0)
        where
          within : (c : Cursors) (names : List Name) → ((l : LogName) → c l ≤ log_length s l) → Walks s c names → (l : LogName) → cursors_from c names l ≤ log_length s l
          within c [] low walks l = low l
          within c (n ∷ names) low walks l = within (next c n.0) names (λ m. bound m (same_log n.0 m) refl) walks.1 l
            where
              bound : (m : LogName) (b : Bool) → same_log n.0 m ≡ b → next c n.0 m ≤ log_length s m
              bound m true e =
                  let same = same_from_test n.0 m e in
                  let room : c m < log_length s m = subst (λ k. c k < log_length s k) same (omega (arith, walks.0.is_next, walks.0.is_there)) in
                  omega (arith, cursor_next c n.0 m, ap (λ b. cond b (suc (c m)) (c m)) e)
              bound m false e = omega (arith, low m, cursor_next c n.0 m, ap (λ b. cond b (suc (c m)) (c m)) e)

  pass_sound : (d : Cursors) (c : Cursors) (names : List Name) → Walks s c names → IsSound d → IsSound (cut_of s d names)
  pass_sound d c [] walks sound = sound
  pass_sound d c (n ∷ names) walks sound = pass_sound (lowered s d n) (next c n.0) names walks.1 (lowered_sound d n walks.0.is_there (λ sent is. named_there n sent is) sound)

  last_cut : Cursors
  last_cut = cut_of s first_cut order

  -- a record above, by what it receives
  receiver_above : (d : Cursors) (n sent : Name) → receipt s n ≡ Some sent → d sent.0 ≤ sent.1 → lowered s d n n.0 ≤ n.1
  receiver_above d n sent is high = go (is_below d n) refl
    where
      named : names_above d (receipt s n) ≡ true
      named = ap (λ o. names_above d o) is ∙ ap (λ b. cond b false true) (le-ltb sent.1 (d sent.0) high)

      to : (b : Bool) → is_below d n ≡ b → lowered s d n ≡ cond b (with_cursor d n.0 n.1) d
      to b e = ap (λ a. cond a (cond (is_below d n) (with_cursor d n.0 n.1) d) d) named ∙ ap (λ b. cond b (with_cursor d n.0 n.1) d) e

      go : (b : Bool) → is_below d n ≡ b → lowered s d n n.0 ≤ n.1
      go true e = let f = ap (λ c. c n.0) (to true e) ∙ with_cursor_is d n.0 n.0 n.1 ∙ ap (λ b. cond b n.1 (d n.0)) (same_log_itself n.0) in omega arith
      go false e = let f = ap (λ c. c n.0) (to false e) in let g = ltb-false n.1 (d n.0) e in omega arith

  last_above : {name : Name} → IsDelayed s (Pager, place) name → last_cut name.0 ≤ name.1
  unfolding last_cut first_cut
  last_above itself = cut_falls s first_cut order Pager
  last_above (later {a = a} {b = b} d log lt) = let e = last_above d in let f = ap (λ l. last_cut l) log in omega arith
  last_above (receives {a = a} {b = b} d named) = go (last_above d) (stands_somewhere s order merging b (receipt_there s b a named))
    where
      go : last_cut a.0 ≤ a.1 → (past : List Name) × StandsAfter order past b → last_cut b.0 ≤ b.1
      go rec stands =
          let past = stands.0 in
          let rest = stands.1.0 in
          let split = stands.1.1 in
          let before = cut_of s first_cut past in
          let whole : last_cut ≡ cut_of s before (b ∷ rest) = ap (λ xs. cut_of s first_cut xs) split ∙ cut_append s first_cut past (b ∷ rest) in
          let may = may_follow s past b rest (subst (λ xs. IsMerging s xs) split merging) in
          let walks = rest_walks at_start past (b ∷ rest) (subst (λ xs. Walks s at_start xs) split (merging_walks s order merging)) in
          let settled : before a.0 ≤ a.1 = cut_settled s (cursors_from at_start past) before (b ∷ rest) a.0 a.1 walks (may.sent_before a named) (omega (arith, ap (λ c. c a.0) whole)) in
          let low = receiver_above before b a named settled in
          let falls = cut_falls s (lowered s before b) rest b.0 in
          omega (arith, ap (λ c. c b.0) whole)
        where
          rest_walks : (c : Cursors) (xs ys : List Name) → Walks s c (xs ++ ys) → Walks s (cursors_from c xs) ys
          rest_walks c [] ys walks = walks
          rest_walks c (x ∷ xs) ys walks = rest_walks (next c x.0) xs ys walks.1

  -- so there is a delayed order
  pub delayed_order : (delayed : List Name) × IsDelayedOrder s order (Pager, place) delayed
  unfolding last_cut IsSound
  delayed_order = (
    rearranged last_cut order,
    record {
      cut = last_cut;
      is_above = λ name d. last_above d;
      is_delayed = pass_sound first_cut at_start order (merging_walks s order merging) first_sound;
      is = refl;
    },
  )
