-- The look that reaches furthest, record by record.
use Rattle.std.proofs.Common.{◌≡◌, ℕ, ◌+◌, ◌<◌, ◌≤◌, ◌⊎◌, inl, inr, Bool, true, false, cond, nat_lt, Option, Some, None, refl, sym, ap, ◌∙◌, arith, MatchOption}
use Rattle.std.specs.Prelude.{slice_get}
use Rattle.std.proofs.lemmas.Bool.{cases_lt, ltb-true, ltb-false}
use Rattle.migration_types.specs.declared.records.GuestRec.{GuestRec}
use Rattle.migration_types.specs.declared.records.GuestRec.TheVariants.{Read, Write, Release, Miss, Halt, Resume, See}
use Rattle.migration_types.specs.Sessions.{Recorded}
use Rattle.session_story.specs.Looks.{HasNoLook, IsGreatestLook}
use Rattle.session_story.specs.inner.Questions.{looked, further}
use Rattle.session_story.specs.declared.looks.Look.{Look}

abbrev pub IsBest : Recorded → ℕ → Option Look → Type 0
IsBest s n best = MatchOption best (HasNoLook s n) (IsGreatestLook s n)

module _ (s : Recorded) (n : ℕ) where
  -- a record that is no look changes nothing
  unlooked : (r : GuestRec) → slice_get s.guest n ≡ Some r → ((k : ℕ) → r ≡ See k → ⊥) → (m k : ℕ) → m < n + 1 → slice_get s.guest m ≡ Some (See k) → m < n
  unlooked r is never m k lt at = go (cases_lt m n)
    where
      go : (m < n) ⊎ (n ≤ m) → m < n
      go (inl l) = l
      go (inr ge) =
          let same : m ≡ n = omega arith in
          let both : Some r ≡ Some (See k) = sym is ∙ ap (λ i. slice_get s.guest i) (sym same) ∙ at in
          absurd (never k (cc))

  same_best : (r : GuestRec) → slice_get s.guest n ≡ Some r → ((k : ℕ) → r ≡ See k → ⊥) → (best : Option Look) → IsBest s n best → IsBest s (n + 1) best
  same_best r is never None h = λ m k lt at. h m k (unlooked r is never m k lt at) at
  same_best r is never (Some l) h = record {
    is_look = h.is_look;
    is_before = let b = h.is_before in omega arith;
    is_greatest = λ m k lt at. h.is_greatest m k (unlooked r is never m k lt at) at;
    is_first = h.is_first;
  }

  -- the number that the record looks at
  looks_same : (k j : ℕ) → slice_get s.guest n ≡ Some (See k) → (m : ℕ) → m ≡ n → slice_get s.guest m ≡ Some (See j) → j ≡ k
  looks_same k j is m same at =
      let both : Some (See j) ≡ Some (See k) = sym at ∙ ap (λ i. slice_get s.guest i) same ∙ is in
      cc

  new_best : (k : ℕ) → slice_get s.guest n ≡ Some (See k) → (best : Option Look) → IsBest s n best → IsBest s (n + 1) (further (record { place = n; placement = k }) best)
  new_best k is None h = record {
    is_look = is;
    is_before = omega arith;
    is_greatest = λ m j lt at. go m j at (cases_lt m n) lt;
    is_first = λ m j lt at. absurd (h m j lt at);
  }
    where
      go : (m j : ℕ) → slice_get s.guest m ≡ Some (See j) → (m < n) ⊎ (n ≤ m) → m < n + 1 → j ≤ k
      go m j at (inl l) lt = absurd (h m j l at)
      go m j at (inr ge) lt = let same = looks_same k j is m (omega arith) at in omega (arith, same)
  new_best k is (Some l) h = go (nat_lt l.placement k) refl
    where
      older : l.placement < k → (m j : ℕ) → slice_get s.guest m ≡ Some (See j) → (m < n) ⊎ (n ≤ m) → m < n + 1 → j ≤ k
      older lt m j at (inl b) _ = let g = h.is_greatest m j b at in omega (arith, g, lt)
      older lt m j at (inr ge) up = let same = looks_same k j is m (omega arith) at in omega (arith, same)

      newer : k ≤ l.placement → (m j : ℕ) → slice_get s.guest m ≡ Some (See j) → (m < n) ⊎ (n ≤ m) → m < n + 1 → j ≤ l.placement
      newer le m j at (inl b) _ = h.is_greatest m j b at
      newer le m j at (inr ge) up = let same = looks_same k j is m (omega arith) at in omega (arith, same, le)

      go : (b : Bool) → nat_lt l.placement k ≡ b → IsBest s (n + 1) (cond b (Some (record { place = n; placement = k })) (Some l))
      go true e =
          let lt = ltb-true l.placement k e in
          record {
            is_look = is;
            is_before = omega arith;
            is_greatest = λ m j up at. older lt m j at (cases_lt m n) up;
            is_first = λ m j b at. let g = h.is_greatest m j b at in omega (arith, g, lt);
          }
      go false e =
          let le = ltb-false l.placement k e in
          record {
            is_look = h.is_look;
            is_before = let b = h.is_before in omega arith;
            is_greatest = λ m j up at. newer le m j at (cases_lt m n) up;
            is_first = h.is_first;
          }

  pub best_next : (r : GuestRec) → slice_get s.guest n ≡ Some r → (best : Option Look) → IsBest s n best → IsBest s (n + 1) (looked n r best)
  best_next (See k) is best h = new_best k is best h
  best_next (Read v p c x) is best h = same_best (Read v p c x) is (λ k e. absurd (cc)) best h
  best_next (Write v p c x) is best h = same_best (Write v p c x) is (λ k e. absurd (cc)) best h
  best_next (Release v p) is best h = same_best (Release v p) is (λ k e. absurd (cc)) best h
  best_next (Miss v p) is best h = same_best (Miss v p) is (λ k e. absurd (cc)) best h
  best_next Halt is best h = same_best Halt is (λ k e. absurd (cc)) best h
  best_next (Resume i) is best h = same_best (Resume i) is (λ k e. absurd (cc)) best h
