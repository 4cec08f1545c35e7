-- Blocks of values that are cleared.
use Rattle.std.proofs.Common.{◌≡◌, ℕ, ◌+◌, ◌-◌, ◌*◌, ◌<◌, ◌≤◌, ◌⊎◌, inl, inr, Bool, false, cond, List, ◌++◌, replicate, length, get_or, set, take, drop, min, max, ltb, refl, sym, ap, ◌∙◌, subst, arith}
use Rattle.std.proofs.lemmas.Bool.{cases_lt, cases_eq, ltb-false, lt-ltb, le-ltb, le-leb, lt-leb, and_left, and_right, and_from}
use Rattle.std.proofs.lemmas.List.{get_or-set_same, get_or-set_other, length-set, length-replicate, length-take, length-drop, length-append}
use Rattle.page_store.specs.inner.Blocks.{block, AreTouched, IsCleared}
use Rattle.page_store.proofs.Places.{cells_put, zeros_put}

-- values that were written, and what lies before and behind them
pub put_length : (xs ys : List ℕ) (from n : ℕ) → length ys ≡ n → from + n ≤ length xs → length (take from xs ++ (ys ++ drop (from + n) xs)) ≡ length xs
put_length xs ys from n sized le = omega (arith, sized, length-append (take from xs) (ys ++ drop (from + n) xs), length-append ys (drop (from + n) xs), length-take from xs, length-drop (from + n) xs)

pub put_outside : (xs new ys : List ℕ) (from : ℕ) → from + length ys ≤ length xs → new ≡ take from xs ++ (ys ++ drop (from + length ys) xs) → (i : ℕ) → (i < from) ⊎ (from + length ys ≤ i) → get_or new i 0 ≡ get_or xs i 0
put_outside xs new ys from le e i (inl lt) = cells_put xs new ys from (length ys) refl le e i ∙ ap (λ b. cond b (get_or ys (i - from) 0) (get_or xs i 0)) (and_left _ _ (lt-leb from i lt))
put_outside xs new ys from le e i (inr ge) = cells_put xs new ys from (length ys) refl le e i ∙ ap (λ b. cond b (get_or ys (i - from) 0) (get_or xs i 0)) (and_right _ _ (le-ltb i (from + length ys) ge))

-- zeros that were written are zeros, and what lies before and behind them is as it was
pub cleared_by : (xs new : List ℕ) (from n : ℕ) → from + n ≤ length xs → new ≡ take from xs ++ (replicate n 0 ++ drop (from + n) xs) → IsCleared from (from + n) xs new
cleared_by xs new from n le e = record {
  len = ap length e ∙ put_length xs (replicate n 0) from n (length-replicate n 0) le;
  inside = λ i ge lt. zeros_put xs new from n le e i ∙ ap (λ b. cond b 0 (get_or xs i 0)) (and_from _ _ (le-leb from i ge) (lt-ltb i (from + n) lt));
  before = λ i lt. zeros_put xs new from n le e i ∙ ap (λ b. cond b 0 (get_or xs i 0)) (and_left _ _ (lt-leb from i lt));
  past = λ i ge. zeros_put xs new from n le e i ∙ ap (λ b. cond b 0 (get_or xs i 0)) (and_right _ _ (le-ltb i (from + n) ge));
}

-- nothing is cleared before the first block's part
pub cleared_none : (xs : List ℕ) (from to : ℕ) → to ≤ from → IsCleared from to xs xs
cleared_none xs from to le = record { len = refl; inside = λ i ge lt. absurd (omega arith); before = λ i lt. refl; past = λ i ge. refl }

-- one block more, of which a part was cleared
pub cleared_more : (old mid new : List ℕ) (from to first past b : ℕ) → block * b ≤ first → from ≤ first → (first ≡ from) ⊎ (first ≡ block * b) → past ≡ min to (block * b + block) → IsCleared from (min (block * b) to) old mid → IsCleared first past mid new → IsCleared from (min (block * (b + 1)) to) old new
cleared_more old mid new from to first past b le order at is then now = record {
  len = now.len ∙ then.len;
  inside = λ i ge lt. inside i ge lt (cases_lt i (block * b));
  before = λ i lt. now.before i (omega arith) ∙ then.before i lt;
  past = λ i ge. now.past i (omega (arith, is)) ∙ then.past i (omega arith);
}
  where
    inside : (i : ℕ) → from ≤ i → i < min (block * (b + 1)) to → (i < block * b) ⊎ (block * b ≤ i) → get_or new i 0 ≡ 0
    inside i ge lt (inl less) = now.before i (omega arith) ∙ then.inside i ge (omega arith)
    inside i ge lt (inr more) = now.inside i (go at) (omega (arith, is))
      where
        go : (first ≡ from) ⊎ (first ≡ block * b) → first ≤ i
        go (inl e) = omega (arith, e)
        go (inr e) = omega (arith, e)

-- one block more, which is zeros
pub cleared_same : (old mid : List ℕ) (marks : List Bool) (from to b : ℕ) → AreTouched mid marks → get_or marks b false ≡ false → IsCleared from (min (block * b) to) old mid → IsCleared from (min (block * (b + 1)) to) old mid
cleared_same old mid marks from to b are unset is = record {
  len = is.len;
  inside = λ i ge lt. inside i ge lt (cases_lt i (block * b));
  before = is.before;
  past = λ i ge. is.past i (omega arith);
}
  where
    inside : (i : ℕ) → from ≤ i → i < min (block * (b + 1)) to → (i < block * b) ⊎ (block * b ≤ i) → get_or mid i 0 ≡ 0
    inside i ge lt (inl less) = is.inside i ge (omega arith)
    inside i ge lt (inr more) = are.zero b i more (omega arith) unset

-- the mark of a block of which a part was cleared, set where it is not the whole block
pub touched_after : (mid new : List ℕ) (marks : List Bool) (first past b : ℕ) (left : Bool) → b < length marks → (left ≡ false → (first ≤ block * b) × (block * b + block ≤ past)) → AreTouched mid marks → IsCleared first past mid new → AreTouched new (set marks b left)
touched_after mid new marks first past b left lt whole are is = record {
  count = omega (arith, are.count, is.len, length-set marks b left);
  zero = λ c i ge less unset. zero c i ge less unset (cases_eq c b);
}
  where
    kept : (i : ℕ) → get_or mid i 0 ≡ 0 → (i < first) ⊎ (first ≤ i) → (i < past) ⊎ (past ≤ i) → get_or new i 0 ≡ 0
    kept i none (inl before) _ = is.before i before ∙ none
    kept i none (inr ge) (inl less) = is.inside i ge less
    kept i none (inr ge) (inr past) = is.past i past ∙ none

    zero : (c i : ℕ) → block * c ≤ i → i < block * c + block → get_or (set marks b left) c false ≡ false → (c ≡ b) ⊎ (c ≡ b → ⊥) → get_or new i 0 ≡ 0
    zero c i ge less unset (inl same) =
        let here : left ≡ false = sym (get_or-set_same marks b left false lt) ∙ ap (λ k. get_or (set marks b left) k false) (sym same) ∙ unset in
        let all = whole here in
        is.inside i (omega (arith, same, all.0)) (omega (arith, same, all.1))
    zero c i ge less unset (inr differs) =
        kept i (are.zero c i ge less (sym (get_or-set_other marks b c left false differs) ∙ unset)) (cases_lt i first) (cases_lt i past)

-- values were written, and the marks of their blocks set
pub touched_put : (values new : List ℕ) (marks after : List Bool) (from to first past : ℕ) → block * first ≤ from → to ≤ block * past → length new ≡ length values → length after ≡ length marks → ((i : ℕ) → (i < from) ⊎ (to ≤ i) → get_or new i 0 ≡ get_or values i 0) → ((k : ℕ) → get_or after k false ≡ false → (get_or marks k false ≡ false) × ((k < first) ⊎ (past ≤ k))) → AreTouched values marks → AreTouched new after
touched_put values new marks after from to first past le ge size sized same unset are = record {
  count = omega (arith, are.count);
  zero = λ b i low high not_set. let was = unset b not_set in same i (apart b i low high was.1) ∙ are.zero b i low high was.0;
}
  where
    apart : (b i : ℕ) → block * b ≤ i → i < block * b + block → (b < first) ⊎ (past ≤ b) → (i < from) ⊎ (to ≤ i)
    apart b i low high (inl before) = inl (omega arith)
    apart b i low high (inr behind) = inr (omega arith)

-- a block's part is cleared
pub block_done : (old mid new : List ℕ) (marks : List Bool) (from to first past b : ℕ) → from ≤ to → to ≤ length mid → from < block * b + block → block * b < to → first ≡ max from (b * block) → past ≡ min to (b * block + block) → AreTouched mid marks → IsCleared from (min (block * b) to) old mid → new ≡ take first mid ++ (replicate (past - first) 0 ++ drop (first + (past - first)) mid) →
    AreTouched new (set marks b (ltb (past - first) block)) × IsCleared from (min (block * (b + 1)) to) old new
block_done old mid new marks from to first past b order within reaches inside first_is past_is are then written = (touched_after mid new marks first past b (ltb (past - first) block) (omega (arith, are.count)) whole are now, cleared_more old mid new from to first past b (omega (arith, first_is)) (omega (arith, first_is)) at (omega (arith, past_is)) then now)
  where
    now : IsCleared first past mid new
    now = let e : first + (past - first) ≡ past = omega (arith, first_is, past_is) in subst (λ n. IsCleared first n mid new) e (cleared_by mid new first (past - first) (omega (arith, first_is, past_is)) written)

    whole : ltb (past - first) block ≡ false → (first ≤ block * b) × (block * b + block ≤ past)
    whole not_less = let all : block ≤ past - first = ltb-false (past - first) block not_less in (omega (arith, first_is, past_is), omega (arith, first_is, past_is))

    at : (first ≡ from) ⊎ (first ≡ block * b)
    at = go (cases_lt from (block * b))
      where
        go : (from < block * b) ⊎ (block * b ≤ from) → (first ≡ from) ⊎ (first ≡ block * b)
        go (inl lt) = inr (omega (arith, first_is))
        go (inr ge) = inl (omega (arith, first_is))
