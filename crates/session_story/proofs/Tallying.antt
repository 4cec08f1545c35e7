-- The places of the records that pass a test: their tally has their number and the first.
use Rattle.std.proofs.Common.{◌≡◌, ℕ, zero, suc, ◌+◌, ◌<◌, ◌≤◌, ◌⊎◌, inl, inr, Bool, true, false, cond, List, [], ◌∷◌, ◌++◌, get_or, length, Option, Some, None, refl, sym, ap, ◌∙◌, subst, arith}
use Rattle.std.specs.Prelude.{Contains, ◌↔◌, slice_get}
use Rattle.std.specs.List.{AllPairs}
use Rattle.std.proofs.lemmas.Bool.{cases_lt}
use Rattle.std.proofs.lemmas.List.{length_push}
use Rattle.std.proofs.lemmas.List.Elements.{Contains-append_cases, Contains-append_left, Contains-append_right, Contains-get_or}
use Rattle.std.proofs.lemmas.List.Quantifiers.{all_pairs_push}
use Rattle.std.proofs.lemmas.Option.{slice_get_within}
use Rattle.audit_model.specs.Shape.{passes}
use Rattle.page_facts.specs.Tables.{first_before, or_here}
use Rattle.session_story.specs.Scans.{how_many}
use Rattle.session_story.specs.declared.kinds.Tally.{Tally}
use Rattle.session_story.specs.inner.Kinds.{IsNoted, IsTallyBy}
use Rattle.session_story.proofs.Scanning.{few_pass, no_more, one_more}

one_only : (y x : ℕ) → Contains (y ∷ []) x → y ≡ x
one_only y x (zero, lt, e) = e
one_only y x (suc k, lt, e) = absurd (omega (arith, lt))

module _ {A : Type 0} (test : ℕ → A → Bool) (log : List A) where
  abbrev passes_at : ℕ → Bool
  passes_at n = passes (test n) (slice_get log n)

  -- the places of the first n records that pass, in ascending order
  abbrev pub places_of : ℕ → List ℕ
  places_of zero = []
  places_of (suc n) = cond (passes_at n) (places_of n ++ n ∷ []) (places_of n)

  record IsPlace (n m : ℕ) : Type 0 where
    below : m < n
    passes_test : passes_at m ≡ true

  place_is : (n m : ℕ) → Contains (places_of n) m → IsPlace n m
  place_is zero m (k, lt, e) = absurd (omega (arith, lt))
  place_is (suc n) m there = go (passes_at n) refl (λ h. place_is n m h) there
    where
      up : IsPlace n m → IsPlace (suc n) m
      up p = record { below = let b = p.below in omega (arith, b); passes_test = p.passes_test }

      go : (b : Bool) → passes_at n ≡ b → (Contains (places_of n) m → IsPlace n m) → Contains (cond b (places_of n ++ n ∷ []) (places_of n)) m → IsPlace (suc n) m
      go false e rec h = up (rec h)
      go true e rec h = at (Contains-append_cases (places_of n) (n ∷ []) m h)
        where
          at : Contains (places_of n) m ⊎ Contains (n ∷ []) m → IsPlace (suc n) m
          at (inl h) = up (rec h)
          at (inr h) = let same : n ≡ m = one_only n m h in subst (λ k. IsPlace (suc n) k) same (record { below = omega arith; passes_test = e })

  is_place : (n m : ℕ) → m < n → passes_at m ≡ true → Contains (places_of n) m
  is_place zero m lt h = absurd (omega (arith, lt))
  is_place (suc n) m lt h = go (passes_at n) refl (λ l. is_place n m l h) (cases_lt m n)
    where
      go : (b : Bool) → passes_at n ≡ b → (m < n → Contains (places_of n) m) → (m < n) ⊎ (n ≤ m) → Contains (cond b (places_of n ++ n ∷ []) (places_of n)) m
      go false e rec (inl less) = rec less
      go false e rec (inr more) = let same : n ≡ m = omega (arith, lt, more) in let yes : passes_at n ≡ true = ap passes_at same ∙ h in absurd (cc)
      go true e rec (inl less) = Contains-append_left (places_of n) (n ∷ []) m (rec less)
      go true e rec (inr more) = Contains-append_right (places_of n) (n ∷ []) m (0, omega arith, omega (arith, lt, more))

  ascending : (n : ℕ) → AllPairs (λ a b. a < b) (places_of n)
  ascending zero = λ i j d lt within. absurd (omega (arith, within))
  ascending (suc n) = go (passes_at n) (ascending n)
    where
      go : (b : Bool) → AllPairs (λ a b. a < b) (places_of n) → AllPairs (λ a b. a < b) (cond b (places_of n ++ n ∷ []) (places_of n))
      go false old = old
      go true old = all_pairs_push (λ a b. a < b) (places_of n) n old (λ k d lt. (place_is n (get_or (places_of n) k d) (Contains-get_or (places_of n) k d lt)).below)

  length_is : (n : ℕ) → length (places_of n) ≡ how_many test log n
  length_is zero = refl
  length_is (suc n) = go (passes_at n) (length_is n)
    where
      go : (b : Bool) → length (places_of n) ≡ how_many test log n → length (cond b (places_of n ++ n ∷ []) (places_of n)) ≡ cond b (suc (how_many test log n)) (how_many test log n)
      go false e = e
      go true e = let more = length_push (places_of n) n in omega (arith, more, e)

  head_is : (n : ℕ) → slice_get (places_of n) 0 ≡ first_before test log n
  head_is zero = refl
  head_is (suc n) = go (passes_at n) (places_of n) (head_is n)
    where
      go : (b : Bool) (xs : List ℕ) → slice_get xs 0 ≡ first_before test log n → slice_get (cond b (xs ++ n ∷ []) xs) 0 ≡ or_here (first_before test log n) b n
      go false xs e = e ∙ none (first_before test log n)
        where
          none : (o : Option ℕ) → o ≡ or_here o false n
          none None = refl
          none (Some k) = refl
      go true [] e = ap (λ o. or_here o true n) e
      go true (x ∷ xs) e = ap (λ o. or_here o true n) e

  -- none of no records, and one record more
  pub none_noted : (t : Tally) → t.count ≡ 0 → t.first ≡ None → IsTallyBy test log 0 t
  none_noted t count first = record { count = count; first = first }

  pub noted : (n : ℕ) (r : A) (here : Bool) (old new : Tally) → slice_get log n ≡ Some r → here ≡ test n r → IsNoted here n old new → IsTallyBy test log n old → IsTallyBy test log (n + 1) new
  noted n r here old new is same on by = record {
    count = on.count ∙ many here same;
    first = on.first ∙ ap (λ o. or_here o here n) by.first ∙ ap (λ b. or_here (first_before test log n) b n) (same ∙ sym (ap (λ o. passes (test n) o) is)) ∙ ap (first_before test log) up;
  }
    where
      up : suc n ≡ n + 1
      up = omega arith

      many : (b : Bool) → b ≡ test n r → cond b (old.count + 1) old.count ≡ how_many test log (n + 1)
      many true e = ap (λ k. k + 1) by.count ∙ sym (one_more test log n r is (sym e) ∙ omega arith)
      many false e = by.count ∙ sym (no_more test log n r is (sym e))

  pub few_noted : (n : ℕ) (t : Tally) → IsTallyBy test log n t → t.count ≤ n
  few_noted n t by = let few = few_pass test log n in let e = by.count in omega (arith, few, e)

  -- the places of all that pass
  pub record AreAll (t : Tally) : Type 0 where
    pub places : List ℕ
    pub ascend : AllPairs (λ a b. a < b) places
    pub exactly : (n : ℕ) → Contains places n ↔ (passes_at n ≡ true)
    pub count : t.count ≡ length places
    pub first : t.first ≡ slice_get places 0

  pub all_are : (t : Tally) → IsTallyBy test log (length log) t → AreAll t
  all_are t by = record {
    places = places_of (length log);
    ascend = ascending (length log);
    exactly = λ n. (λ h. (place_is (length log) n h).passes_test, λ p. is_place (length log) n (within n (slice_get log n) refl p) p);
    count = by.count ∙ sym (length_is (length log));
    first = by.first ∙ sym (head_is (length log));
  }
    where
      within : (n : ℕ) (o : Option A) → slice_get log n ≡ o → passes (test n) o ≡ true → n < length log
      within n None is p = absurd (cc)
      within n (Some r) is p = slice_get_within log n r is
