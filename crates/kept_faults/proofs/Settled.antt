-- What a log says before a place, where some of its records go: as much as with all of them, or a record that is kept
-- decides it anew before it shows.
use Rattle.std.proofs.Common.{◌≡◌, ℕ, zero, suc, ◌<◌, ◌≤◌, ◌⊎◌, inl, inr, Bool, true, false, List, length, Option, Some, None, refl, sym, ap, ◌∙◌, subst, arith}
use Rattle.std.specs.Prelude.{slice_get, is_some}
use Rattle.std.proofs.lemmas.Bool.{cases_lt}
use Rattle.std.proofs.lemmas.Option.{slice_get_within}
use Rattle.audit_model.specs.Flat.{changed, before}
use Rattle.audit_model.specs.Windows.{kept_in, tallied, rank}
use Rattle.audit_model.proofs.Ranks.{Aligned, kept_at}

-- From this place on a kept record decides what is said, and no record up to it shows what was said.
pub record IsSettled {A V : Type 0} (marks : List Bool) (log : List A) (change : A → V → V) (shows : A → Bool) (n : ℕ) : Type 0 where
  pub place : ℕ
  pub by : A
  pub is_later : n ≤ place
  pub stands : slice_get log place ≡ Some by
  pub is_kept : slice_get marks place ≡ Some true
  pub decides : (v w : V) → change by v ≡ change by w
  pub is_unseen : (k : ℕ) (r : A) → n ≤ k → k ≤ place → slice_get log k ≡ Some r → shows r ≡ false

module _ {A V : Type 0} (marks : List Bool) (log : List A) (change : A → V → V) (shows : A → Bool) (start : V) where
  -- the same of the next place, where the deciding record is not at this one
  shorter : (n : ℕ) (settled : IsSettled marks log change shows n) → n < settled.place → IsSettled marks log change shows (suc n)
  shorter n settled lt = record {
    place = settled.place;
    by = settled.by;
    is_later = omega (arith, lt);
    stands = settled.stands;
    is_kept = settled.is_kept;
    decides = settled.decides;
    is_unseen = λ k r le. settled.is_unseen k r (omega (arith, le));
  }

  -- the deciding record is at this place or later
  at_or_later : (n : ℕ) (settled : IsSettled marks log change shows n) → (n ≡ settled.place) ⊎ (n < settled.place)
  at_or_later n settled = go (cases_lt n settled.place)
    where
      go : (n < settled.place) ⊎ (settled.place ≤ n) → (n ≡ settled.place) ⊎ (n < settled.place)
      go (inl lt) = inr lt
      go (inr le) = let more = settled.is_later in inl (omega (arith, le, more))

  -- `Lost n`: from place n on nothing shows what is said
  module _ (Lost : ℕ → Type 0) (later : (n : ℕ) → Lost n → Lost (suc n)) (hides : (n : ℕ) (x : A) → Lost n → slice_get log n ≡ Some x → shows x ≡ false) (aligned : Aligned marks log) (bound : ℕ) (gone : (n : ℕ) (x : A) → n < bound → slice_get log n ≡ Some x → slice_get marks n ≡ Some false → (before change start log n ≡ change x (before change start log n)) ⊎ (IsSettled marks log change shows (suc n) ⊎ Lost (suc n))) where
    pub agrees_or_settled : (n : ℕ) → n ≤ bound → (before change start (kept_in marks log) (rank marks n) ≡ before change start log n) ⊎ (IsSettled marks log change shows n ⊎ Lost n)
    agrees_or_settled zero le = inl refl
    agrees_or_settled (suc n) le = go (slice_get marks n) refl (slice_get log n) refl (agrees_or_settled n (omega (arith, le)))
      where
        Kept : V
        Kept = before change start (kept_in marks log) (rank marks n)

        Next : Option Bool → Option A → Type 0
        Next m o = (before change start (kept_in marks log) (tallied m (rank marks n)) ≡ changed change o (before change start log n)) ⊎ (IsSettled marks log change shows (suc n) ⊎ Lost (suc n))

        at_end : slice_get log n ≡ None → (settled : IsSettled marks log change shows n) → (n ≡ settled.place) ⊎ (n < settled.place) → IsSettled marks log change shows (suc n)
        at_end b settled (inr lt) = shorter n settled lt
        at_end b settled (inl e) = let f : Some settled.by ≡ None = sym settled.stands ∙ sym (ap (slice_get log) e) ∙ b in absurd (cc)

        next_kept : (x : A) → slice_get log n ≡ Some x → slice_get marks n ≡ Some true → before change start (kept_in marks log) (suc (rank marks n)) ≡ change x Kept
        next_kept x b a = ap (λ o. changed change o Kept) (kept_at marks log n x b a)

        by_kept : (x : A) → slice_get log n ≡ Some x → slice_get marks n ≡ Some true → (settled : IsSettled marks log change shows n) → (n ≡ settled.place) ⊎ (n < settled.place) → Next (Some true) (Some x)
        by_kept x b a settled (inr lt) = inr (inl (shorter n settled lt))
        by_kept x b a settled (inl e) =
            let f : Some settled.by ≡ Some x = sym settled.stands ∙ sym (ap (slice_get log) e) ∙ b in
            let same : settled.by ≡ x = cc in
            inl (next_kept x b a ∙ subst (λ r. change r Kept ≡ change r (before change start log n)) same (settled.decides Kept (before change start log n)))

        by_gone : (x : A) → slice_get log n ≡ Some x → slice_get marks n ≡ Some false → (settled : IsSettled marks log change shows n) → (n ≡ settled.place) ⊎ (n < settled.place) → IsSettled marks log change shows (suc n)
        by_gone x b a settled (inr lt) = shorter n settled lt
        by_gone x b a settled (inl e) = let f : Some true ≡ Some false = sym settled.is_kept ∙ sym (ap (slice_get marks) e) ∙ a in absurd (cc)

        first_gone : (x : A) → Kept ≡ before change start log n → (before change start log n ≡ change x (before change start log n)) ⊎ (IsSettled marks log change shows (suc n) ⊎ Lost (suc n)) → Next (Some false) (Some x)
        first_gone x e (inl f) = inl (e ∙ f)
        first_gone x e (inr rest) = inr rest

        go : (m : Option Bool) → slice_get marks n ≡ m → (o : Option A) → slice_get log n ≡ o → (Kept ≡ before change start log n) ⊎ (IsSettled marks log change shows n ⊎ Lost n) → Next m o
        go None a None b (inl e) = inl e
        go None a None b (inr (inl settled)) = inr (inl (at_end b settled (at_or_later n settled)))
        go None a None b (inr (inr lost)) = inr (inr (later n lost))
        go None a (Some x) b h = let f : false ≡ true = sym (ap is_some a) ∙ aligned n ∙ ap is_some b in absurd (cc)
        go (Some m) a None b h = let f : true ≡ false = sym (ap is_some a) ∙ aligned n ∙ ap is_some b in absurd (cc)
        go (Some true) a (Some x) b (inl e) = inl (next_kept x b a ∙ ap (change x) e)
        go (Some true) a (Some x) b (inr (inl settled)) = by_kept x b a settled (at_or_later n settled)
        go (Some true) a (Some x) b (inr (inr lost)) = inr (inr (later n lost))
        go (Some false) a (Some x) b (inl e) = first_gone x e (gone n x (omega (arith, le)) b a)
        go (Some false) a (Some x) b (inr (inl settled)) = inr (inl (by_gone x b a settled (at_or_later n settled)))
        go (Some false) a (Some x) b (inr (inr lost)) = inr (inr (later n lost))

    -- so it is the same where a record shows it
    pub agrees_at : (n : ℕ) (x : A) → n ≤ bound → slice_get log n ≡ Some x → shows x ≡ true → before change start (kept_in marks log) (rank marks n) ≡ before change start log n
    agrees_at n x most is e = go (agrees_or_settled n most)
      where
        go : (before change start (kept_in marks log) (rank marks n) ≡ before change start log n) ⊎ (IsSettled marks log change shows n ⊎ Lost n) → before change start (kept_in marks log) (rank marks n) ≡ before change start log n
        go (inl same) = same
        go (inr (inl settled)) = let f = settled.is_unseen n x (omega arith) settled.is_later is in absurd (cc)
        go (inr (inr lost)) = let f = hides n x lost is in absurd (cc)

    -- and behind the log's end
    pub agrees_behind : (n : ℕ) → n ≤ bound → length log ≤ n → (Lost n → ⊥) → before change start (kept_in marks log) (rank marks n) ≡ before change start log n
    agrees_behind n most le found = go (agrees_or_settled n most)
      where
        go : (before change start (kept_in marks log) (rank marks n) ≡ before change start log n) ⊎ (IsSettled marks log change shows n ⊎ Lost n) → before change start (kept_in marks log) (rank marks n) ≡ before change start log n
        go (inl same) = same
        go (inr (inr lost)) = absurd (found lost)
        go (inr (inl settled)) = let lt = slice_get_within log settled.place settled.by settled.stands in let more = settled.is_later in absurd (omega (arith, le, lt, more))
