-- What a search among the places of marks finds.
use Rattle.std.proofs.Common.{◌≡◌, ◌≢◌, ℕ, zero, suc, ◌<◌, ◌≤◌, ◌⊎◌, inl, inr, Bool, true, false, List, [], ◌∷◌, length, get_or, Option, Some, None, Result, Ok, Err, refl, sym, ap, ◌∙◌, arith, leb, ltb}
use Rattle.std.specs.Prelude.{◌==◌, ◌||◌, slice_get, nat_lt, MatchResult, is_ok, if◌then◌else◌}
use Rattle.std.specs.List.Sorted.{IsPartitionPoint, IsNonDecreasingBy}
use Rattle.std.proofs.lemmas.Bool.{cases_lt, cases_eq}
use Rattle.std.proofs.lemmas.Bool.Decides.{nat_tests}
use Rattle.audit_model.specs.Shape.{passes}
use Rattle.audit_model.specs.Windows.{is_marked, tallied, rank, newest}
use Rattle.windows.specs.inner.Marks.{is_in, marks_of, Rises, has_mark, is_mark}
use Rattle.windows.proofs.Marked.{none_below, none_past, mark_within, mark_past, mark_at}

least : (low end : ℕ) (places : List ℕ) (i d : ℕ) → Rises low end places → i < length places → low ≤ get_or places i d
least low end [] i d r lt = absurd (omega arith)
least low end (p ∷ places) zero d r lt = r.0
least low end (p ∷ places) (suc i) d r lt = let b = least (suc p) end places i d r.2 (omega arith) in omega (arith, b)

pub rising : (low end : ℕ) (places : List ℕ) → Rises low end places → IsNonDecreasingBy (λ n. n) places
rising low end [] r i j d le lt = absurd (omega arith)
rising low end (p ∷ places) r zero zero d le lt = omega arith
rising low end (p ∷ places) r zero (suc j) d le lt = let b = least (suc p) end places j d r.2 (omega arith) in omega (arith, b)
rising low end (p ∷ places) r (suc i) zero d le lt = absurd (omega arith)
rising low end (p ∷ places) r (suc i) (suc j) d le lt = rising (suc p) end places r.2 i j d (omega arith) (omega arith)

-- how many places are below a number
count : List ℕ → ℕ → ℕ
count [] n = 0
count (p ∷ places) n = if nat_lt p n then suc (count places n) else count places n

count_zero : (places : List ℕ) → count places 0 ≡ 0
unfolding count
count_zero [] = refl
count_zero (p ∷ places) = step (nat_lt p 0) (grind (arith, nat_tests)) (count_zero places)
  where
    step : (b : Bool) → b ≡ false → count places 0 ≡ 0 → (if b then suc (count places 0) else count places 0) ≡ 0
    step b e rec = rw e rec

count_suc : (low end : ℕ) (places : List ℕ) (n : ℕ) → Rises low end places → count places (suc n) ≡ tallied (Some (is_in places n)) (count places n)
unfolding count
count_suc low end [] n r = refl
count_suc low end (p ∷ places) n r = go (count_suc (suc p) end places n r.2) (cases_lt p n) (cases_eq p n)
  where
    past : (b : Bool) (c : ℕ) → suc (tallied (Some b) c) ≡ tallied (Some b) (suc c)
    past true c = refl
    past false c = refl

    join : (a t e : Bool) (a' t' e' : Bool) → a ≡ a' → t ≡ t' → e ≡ e' →
        (if a' then suc (count places (suc n)) else count places (suc n)) ≡ tallied (Some (e' || is_in places n)) (if t' then suc (count places n) else count places n) →
        (if a then suc (count places (suc n)) else count places (suc n)) ≡ tallied (Some (e || is_in places n)) (if t then suc (count places n) else count places n)
    join a t e a' t' e' p q r g = rw (p, q, r) g

    go : count places (suc n) ≡ tallied (Some (is_in places n)) (count places n) → (p < n) ⊎ (n ≤ p) → (p ≡ n) ⊎ (p ≡ n → ⊥) → count (p ∷ places) (suc n) ≡ tallied (Some (is_in (p ∷ places) n)) (count (p ∷ places) n)
    go rec (inl lt) same = join (nat_lt p (suc n)) (nat_lt p n) (p == n) true true false (grind (arith, nat_tests)) (grind (arith, nat_tests)) (grind (arith, nat_tests)) (ap suc rec ∙ past (is_in places n) (count places n))
    go rec (inr le) (inl e) = join (nat_lt p (suc n)) (nat_lt p n) (p == n) true false true (grind (arith, nat_tests)) (grind (arith, nat_tests)) (grind (arith, nat_tests)) (ap suc (rec ∙ ap (λ b. tallied (Some b) (count places n)) (none_below (suc p) end places n r.2 (omega arith))))
    go rec (inr le) (inr ne) = let lt : n < p = omega arith in join (nat_lt p (suc n)) (nat_lt p n) (p == n) false false false (grind (arith, nat_tests)) (grind (arith, nat_tests)) (grind (arith, nat_tests)) rec

rank_count : (places : List ℕ) (end n : ℕ) → Rises 0 end places → rank (marks_of places end) n ≡ count places n
rank_count places end zero r = sym (count_zero places)
rank_count places end (suc n) r = go (rank_count places end n r) (cases_lt n end)
  where
    go : rank (marks_of places end) n ≡ count places n → (n < end) ⊎ (end ≤ n) → rank (marks_of places end) (suc n) ≡ count places (suc n)
    go rec (inl lt) = ap (λ o. tallied o (rank (marks_of places end) n)) (mark_within places end n lt) ∙ ap (tallied (Some (is_in places n))) rec ∙ sym (count_suc 0 end places n r)
    go rec (inr le) = ap (λ o. tallied o (rank (marks_of places end) n)) (mark_past places end n le) ∙ rec ∙ sym (count_suc 0 end places n r ∙ ap (λ b. tallied (Some b) (count places n)) (none_past 0 end places n r le))

count_is : (places : List ℕ) (n i : ℕ) → i ≤ length places → ((k : ℕ) → k < i → get_or places k 0 < n) → ((k : ℕ) → i ≤ k → k < length places → n ≤ get_or places k 0) → count places n ≡ i
unfolding count
count_is [] n i le front back = omega arith
count_is (p ∷ places) n zero le front back = step (nat_lt p n) (let h = back 0 (omega arith) (omega arith) in grind (arith, nat_tests, h)) (count_is places n zero (omega arith) (λ k lt. absurd (omega arith)) (λ k a b. back (suc k) (omega arith) (omega arith)))
  where
    step : (b : Bool) → b ≡ false → count places n ≡ 0 → (if b then suc (count places n) else count places n) ≡ 0
    step b e rec = rw e rec
count_is (p ∷ places) n (suc i) le front back = step (nat_lt p n) (let h = front 0 (omega arith) in grind (arith, nat_tests, h)) (count_is places n i (omega arith) (λ k lt. front (suc k) (omega arith)) (λ k a b. back (suc k) (omega arith) (omega arith)))
  where
    step : (b : Bool) → b ≡ true → count places n ≡ i → (if b then suc (count places n) else count places n) ≡ suc i
    step b e rec = rw e (ap suc rec)

-- what `partition_point` finds by `<`
pub rank_is : (places : List ℕ) (end n i : ℕ) → Rises 0 end places → i ≤ length places → IsPartitionPoint (λ y. ltb y n ≡ true) (λ y. ltb y n ≡ false) places i → i ≡ rank (marks_of places end) n
rank_is places end n i r le point = sym (rank_count places end n r ∙ count_is places n i le (λ k lt. let h = point.0 k 0 (omega arith) lt in grind (arith, nat_tests, h)) (λ k a b. let h = point.1 k 0 a b in grind (arith, nat_tests, h)))

absent : (places : List ℕ) (n : ℕ) → ((k : ℕ) → k < length places → get_or places k 0 ≢ n) → is_in places n ≡ false
absent [] n h = refl
absent (p ∷ places) n h = step (p == n) (is_in places n) (let d = h 0 (omega arith) in grind (arith, nat_tests, d)) (absent places n (λ k lt. h (suc k) (omega arith)))
  where
    step : (a b : Bool) → a ≡ false → b ≡ false → (a || b) ≡ false
    step a b e f = rw (e, f)

present : (places : List ℕ) (n i : ℕ) → i < length places → get_or places i 0 ≡ n → is_in places n ≡ true
present [] n i lt e = absurd (omega arith)
present (p ∷ places) n zero lt e = step (p == n) (is_in places n) (grind (arith, nat_tests))
  where
    step : (a b : Bool) → a ≡ true → (a || b) ≡ true
    step a b e = rw e
present (p ∷ places) n (suc i) lt e = step (p == n) (is_in places n) (present places n i (omega arith) e)
  where
    step : (a b : Bool) → b ≡ true → (a || b) ≡ true
    step true b e = refl
    step false b e = e

-- what a binary search finds
pub has_is : (places : List ℕ) (end n : ℕ) (r : Result ℕ ℕ) → Rises 0 end places → MatchResult r (λ i. (i < length places) × (get_or places i 0 ≡ n)) (λ i. (i ≤ length places) × ((k : ℕ) → k < i → get_or places k 0 < n) × ((k : ℕ) → i ≤ k → k < length places → n < get_or places k 0)) → is_ok r ≡ has_mark (marks_of places end) n
has_is places end n (Ok i) rises h = sym (mark_at places end n rises ∙ present places n i h.0 h.1)
has_is places end n (Err i) rises h = sym (mark_at places end n rises ∙ absent places n (λ k lt. other k lt (cases_lt k i)))
  where
    other : (k : ℕ) → k < length places → (k < i) ⊎ (i ≤ k) → get_or places k 0 ≢ n
    other k lt (inl a) e = let b = h.1 k a in absurd (omega (arith, b))
    other k lt (inr a) e = let b = h.2 k a lt in absurd (omega (arith, b))

-- a mark is what its log's test says of itself
mark_passes : (o : Option Bool) → passes is_mark o ≡ is_marked o
mark_passes None = refl
mark_passes (Some b) = refl

newest_step : (places : List ℕ) (end n : ℕ) (b : Bool) → Rises 0 end places → is_in places n ≡ b → newest is_mark (marks_of places end) (suc n) ≡ (if b then suc n else newest is_mark (marks_of places end) n)
newest_step places end n b r e = ap (λ t. if t then suc n else newest is_mark (marks_of places end) n) (mark_passes (slice_get (marks_of places end) n) ∙ mark_at places end n r ∙ e)

pub newest_none : (places : List ℕ) (end n : ℕ) → Rises 0 end places → ((k : ℕ) → k < n → is_in places k ≡ false) → newest is_mark (marks_of places end) n ≡ 0
newest_none places end zero r none = refl
newest_none places end (suc n) r none = newest_step places end n false r (none n (omega arith)) ∙ newest_none places end n r (λ k lt. none k (omega arith))

pub newest_is : (places : List ℕ) (end m n : ℕ) → Rises 0 end places → m < n → is_in places m ≡ true → ((k : ℕ) → m < k → k < n → is_in places k ≡ false) → newest is_mark (marks_of places end) n ≡ suc m
newest_is places end m zero r lt here none = absurd (omega arith)
newest_is places end m (suc n) r lt here none = go (λ a. newest_is places end m n r a here (λ k b c. none k b (omega arith))) (cases_lt m n)
  where
    go : (m < n → newest is_mark (marks_of places end) n ≡ suc m) → (m < n) ⊎ (n ≤ m) → newest is_mark (marks_of places end) (suc n) ≡ suc m
    go rec (inl a) = newest_step places end n false r (none n a (omega arith)) ∙ rec a
    go rec (inr a) = let e : n ≡ m = omega arith in newest_step places end n true r (ap (is_in places) e ∙ here) ∙ ap suc e

-- what `partition_point` finds by `≤`
pub newest_at_none : (places : List ℕ) (end n : ℕ) → Rises 0 end places → IsPartitionPoint (λ y. leb y n ≡ true) (λ y. leb y n ≡ false) places 0 → newest is_mark (marks_of places end) (suc n) ≡ 0
newest_at_none places end n r point = newest_none places end (suc n) r (λ q lt. absent places q (λ k within e. let h = point.1 k 0 (omega arith) within in let m : n < get_or places k 0 = grind (arith, nat_tests, h) in absurd (omega (arith, m))))

any_default : (places : List ℕ) (i d e : ℕ) → i < length places → get_or places i d ≡ get_or places i e
any_default [] i d e lt = absurd (omega arith)
any_default (p ∷ places) zero d e lt = refl
any_default (p ∷ places) (suc i) d e lt = any_default places i d e (omega arith)

newest_at : (places : List ℕ) (end n i : ℕ) → Rises 0 end places → i < length places → IsPartitionPoint (λ y. leb y n ≡ true) (λ y. leb y n ≡ false) places (suc i) → newest is_mark (marks_of places end) (suc n) ≡ suc (get_or places i 0)
newest_at places end n i r lt point = newest_is places end (get_or places i 0) (suc n) r (lt-suc (here (point.0 i 0 (omega arith) (omega arith)))) (present places (get_or places i 0) i lt refl) (λ q a b. absent places q (λ k within. other q a b k within (cases_lt i k)))
  where
    here : leb (get_or places i 0) n ≡ true → get_or places i 0 ≤ n
    here h = grind (arith, nat_tests, h)

    lt-suc : get_or places i 0 ≤ n → get_or places i 0 < suc n
    lt-suc h = omega arith

    other : (q : ℕ) → get_or places i 0 < q → q < suc n → (k : ℕ) → k < length places → (i < k) ⊎ (k ≤ i) → get_or places k 0 ≢ q
    other q a b k within (inl l) e = let h = point.1 k 0 l within in let m : n < get_or places k 0 = grind (arith, nat_tests, h) in absurd (omega (arith, m))
    other q a b k within (inr l) e = let h = rising 0 end places r k i 0 l lt in absurd (omega (arith, h))

pub newest_at_place : (places : List ℕ) (end n i x : ℕ) → Rises 0 end places → suc i ≤ length places → IsPartitionPoint (λ y. leb y n ≡ true) (λ y. leb y n ≡ false) places (suc i) → x ≡ get_or places i x → newest is_mark (marks_of places end) (suc n) ≡ suc x
newest_at_place places end n i x r le point e = newest_at places end n i r (omega arith) point ∙ ap suc (any_default places i 0 x (omega arith) ∙ sym e)

pub most : (low end : ℕ) (places : List ℕ) (i d : ℕ) → Rises low end places → i < length places → get_or places i d < end
most low end [] i d r lt = absurd (omega arith)
most low end (p ∷ places) zero d r lt = r.1
most low end (p ∷ places) (suc i) d r lt = most (suc p) end places i d r.2 (omega arith)
