-- How many of the first pages are in a set.
use Rattle.std.proofs.Common.{◌≡◌, ◌≢◌, ℕ, zero, suc, ◌+◌, ◌-◌, ◌<◌, ◌≤◌, ◌⊎◌, inl, inr, Bool, true, false, cond, List, length, map, get_or, set, refl, sym, ap, ◌∙◌, arith}
use Rattle.std.specs.List.{range_with_len, sum_by}
use Rattle.std.proofs.lemmas.Bool.{cases_lt, cases_eq, ne_eqb, eq-eqb}
use Rattle.std.proofs.lemmas.List.{get_or-set_same, get_or-set_other, get_or_past, length-set, map-id}
use Rattle.std.proofs.lemmas.List.Sums.{count_by-le-length}
use Rattle.std.proofs.lemmas.List.FromFn.{length-range_with_len, sum_by-map-range_with_len_more}
use Rattle.migration_types.specs.PageSets.{Pages, without_page, size_below}
use Rattle.bubbling.specs.Bubbling.{marked}

abbrev pub one_if : Bool → ℕ
one_if b = cond b 1 0

pub size_more : (pages : Pages) (n : ℕ) → size_below (n + 1) pages ≡ size_below n pages + one_if (pages n)
size_more pages n = sym (same (n + 1)) ∙ sum_by-map-range_with_len_more (λ k. one_if (pages k)) (λ k. k) 0 n n (omega arith) ∙ ap (λ k. k + one_if (pages n)) (same n)
  where
    same : (m : ℕ) → sum_by (λ k. one_if (pages k)) (map (λ k. k) (range_with_len 0 m)) ≡ size_below m pages
    same m = ap (sum_by (λ k. one_if (pages k))) (map-id (range_with_len 0 m))

pub size_le : (pages : Pages) (n : ℕ) → size_below n pages ≤ n
size_le pages n = omega (arith, count_by-le-length pages (range_with_len 0 n), length-range_with_len 0 n)

-- sets that agree below a number
pub size_same : (f g : Pages) (n : ℕ) → ((k : ℕ) → k < n → f k ≡ g k) → size_below n f ≡ size_below n g
size_same f g zero same = refl
size_same f g (suc n) same =
    let ih = size_same f g n (λ k lt. same k (omega arith)) in
    let here : one_if (f n) ≡ one_if (g n) = ap one_if (same n (omega arith)) in
    let e : suc n ≡ n + 1 = omega arith in
    ap (λ k. size_below k f) e ∙ size_more f n ∙ (let s : size_below n f + one_if (f n) ≡ size_below n g + one_if (g n) = omega (arith, ih, here) in s) ∙ sym (size_more g n) ∙ ap (λ k. size_below k g) (sym e)

pub without_same : (pages : Pages) (q k : ℕ) → q ≢ k → without_page q pages k ≡ pages k
without_same pages q k differs = ap (λ b. cond b false (pages k)) (ne_eqb q k differs)

pub without_here : (pages : Pages) (q k : ℕ) → q ≡ k → without_page q pages k ≡ false
without_here pages q k same = ap (λ b. cond b false (pages k)) (eq-eqb q k same)

-- a page of the set taken out
pub size_without : (pages : Pages) (q n : ℕ) → q < n → pages q ≡ true → size_below n pages ≡ size_below n (without_page q pages) + 1
size_without pages q zero lt is = absurd (omega arith)
size_without pages q (suc n) lt is =
    let e : suc n ≡ n + 1 = omega arith in
    ap (λ k. size_below k pages) e ∙ size_more pages n ∙ go (λ l. size_without pages q n l is) (cases_eq q n) ∙ sym (ap (λ x. x + 1) (size_more (without_page q pages) n)) ∙ ap (λ k. size_below k (without_page q pages) + 1) (sym e)
  where
    go : (q < n → size_below n pages ≡ size_below n (without_page q pages) + 1) → (q ≡ n) ⊎ (q ≡ n → ⊥) → size_below n pages + one_if (pages n) ≡ size_below n (without_page q pages) + one_if (without_page q pages n) + 1
    go earlier (inl same) =
        let below = size_same pages (without_page q pages) n (λ k lk. sym (without_same pages q k (λ h. absurd (omega arith)))) in
        let was : one_if (pages n) ≡ 1 = ap one_if (ap pages (sym same) ∙ is) in
        let now : one_if (without_page q pages n) ≡ 0 = ap one_if (without_here pages q n same) in
        omega (arith, below, was, now)
    go earlier (inr differs) =
        let ih = earlier (omega (arith, differs)) in
        let same : one_if (without_page q pages n) ≡ one_if (pages n) = ap one_if (without_same pages q n differs) in
        omega (arith, ih, same)

-- a mark taken away
pub marked_set : (marks : List Bool) (q : ℕ) → q < length marks → marked (set marks q false) ≡ without_page q (marked marks)
marked_set marks q lt = λ i k. each k (cases_eq q k) i
  where
    each : (k : ℕ) → (q ≡ k) ⊎ (q ≡ k → ⊥) → marked (set marks q false) k ≡ without_page q (marked marks) k
    each k (inl same) = ap (λ j. get_or (set marks q false) j false) (sym same) ∙ get_or-set_same marks q false false lt ∙ sym (without_here (marked marks) q k same)
    each k (inr differs) = get_or-set_other marks q k false false (λ h. differs (sym h)) ∙ sym (without_same (marked marks) q k differs)

-- one mark less to count
pub size_set : (marks : List Bool) (q left : ℕ) → q < length marks → get_or marks q false ≡ true → left ≡ size_below (length marks) (marked marks) → (1 ≤ left) × (left - 1 ≡ size_below (length (set marks q false)) (marked (set marks q false)))
size_set marks q left lt is size =
    let fewer = size_without (marked marks) q (length marks) lt is in
    let e : size_below (length marks) (without_page q (marked marks)) ≡ size_below (length (set marks q false)) (marked (set marks q false)) = ap (size_below (length marks)) (sym (marked_set marks q lt)) ∙ ap (λ n. size_below n (marked (set marks q false))) (sym (length-set marks q false)) in
    (omega (arith, size, fewer), omega (arith, size, fewer, e))

-- a mark is within the marks
pub marked_lt : (marks : List Bool) (q : ℕ) → marked marks q ≡ true → q < length marks
marked_lt marks q is = go (cases_lt q (length marks))
  where
    go : (q < length marks) ⊎ (length marks ≤ q) → q < length marks
    go (inl lt) = lt
    go (inr ge) = absurd (apart (sym is ∙ get_or_past marks q false ge))
      where
        apart : true ≡ false → ⊥
        apart e = cc
