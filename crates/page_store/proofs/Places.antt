-- A write to a list of cells as a change of the memory.
use Rattle.std.proofs.Common.{◌≡◌, ℕ, ◌+◌, ◌-◌, ◌*◌, ◌<◌, ◌≤◌, ◌⊎◌, inl, inr, true, false, cond, ◌&&◌, List, ◌++◌, zero, suc, replicate, length, map, get_or, set, take, drop, ltb, leb, eq-eqb, refl, sym, ap, ◌∙◌, subst, arith}
use Rattle.std.specs.List.{range_with_len}
use Rattle.std.specs.Prelude.{◌==◌}
use Rattle.std.proofs.lemmas.Bool.{cases_lt, cases_eq, ne_eqb, lt-ltb, le-ltb, le-leb, lt-leb, and_left, and_right, and_from, and_parts, cases_Bool, eqb-true}
use Rattle.std.proofs.lemmas.List.{get_or-set_same, get_or-set_other, get_or_past, get_or-take, get_or-drop, same_lists, length-take, length-drop, length-replicate, get_or_default, get_or_append_left, get_or-append_right}
use Rattle.std.proofs.lemmas.List.FromFn.{get_or-map-range_with_len, length-map-range_with_len}
use Rattle.std.proofs.Math.Nat.{mul_comm}
use Rattle.std.proofs.lemmas.Nat.{mul-add-lt, same_from_place, row_fits}
use Rattle.migration_types.specs.Memory.{Memory, page_of, with_cell, with_content, with_zeros}
use Rattle.migration_types.specs.declared.size.Size.{Size}
use Rattle.page_store.specs.Frames.{Frames, memory_of, IsWith}

abbrev at : Size → ℕ → ℕ → List ℕ → Frames
at size pages cells items = record { geometry = record { size = size; pages = pages; cells = cells }; items = items }

-- two lists of cells whose memories differ as two tests say
inside : (size : Size) (pages cells : ℕ) (items : List ℕ) (q d : ℕ) → q < pages → d < cells → memory_of (at size pages cells items) q d ≡ get_or items (q * cells + d) 0
inside size pages cells items q d p c = ap (λ b. cond b (get_or items (q * cells + d) 0) 0) (and_from _ _ (lt-ltb q pages p) (lt-ltb d cells c))

outside_page : (size : Size) (pages cells : ℕ) (items : List ℕ) (q d : ℕ) → pages ≤ q → memory_of (at size pages cells items) q d ≡ 0
outside_page size pages cells items q d p = ap (λ b. cond b (get_or items (q * cells + d) 0) 0) (and_left _ _ (le-ltb q pages p))

outside_cell : (size : Size) (pages cells : ℕ) (items : List ℕ) (q d : ℕ) → cells ≤ d → memory_of (at size pages cells items) q d ≡ 0
outside_cell size pages cells items q d c = ap (λ b. cond b (get_or items (q * cells + d) 0) 0) (and_right _ _ (le-ltb d cells c))

-- a memory that is given within the frames and is zero beyond them
pub memory_by : (size : Size) (pages cells : ℕ) (items : List ℕ) (m : Memory) → ((q d : ℕ) → q < pages → d < cells → get_or items (q * cells + d) 0 ≡ m q d) → ((q d : ℕ) → pages ≤ q → 0 ≡ m q d) → ((q d : ℕ) → q < pages → cells ≤ d → 0 ≡ m q d) → memory_of (at size pages cells items) ≡ m
memory_by size pages cells items m within page cell = λ i q d. each q d i
  where
    go : (q d : ℕ) → (q < pages) ⊎ (pages ≤ q) → (d < cells) ⊎ (cells ≤ d) → memory_of (at size pages cells items) q d ≡ m q d
    go q d (inl p) (inl c) = inside size pages cells items q d p c ∙ within q d p c
    go q d (inl p) (inr c) = outside_cell size pages cells items q d c ∙ cell q d p c
    go q d (inr p) _ = outside_page size pages cells items q d p ∙ page q d p

    each : (q d : ℕ) → memory_of (at size pages cells items) q d ≡ m q d
    each q d = go q d (cases_lt q pages) (cases_lt d cells)

-- the place of a cell
pub place_lt : (pages cells q d : ℕ) → q < pages → d < cells → q * cells + d < pages * cells
place_lt pages cells q d p c = subst (λ n. q * cells + d < n) (mul_comm cells pages) (mul-add-lt q cells d pages p c)

pub page_fits : (pages cells p : ℕ) → p < pages → p * cells + cells ≤ pages * cells
page_fits pages cells p lt = row_fits p cells pages cells lt (omega arith)

pub write_memory : (size : Size) (pages cells : ℕ) (items after : List ℕ) (p c x : ℕ) → length items ≡ pages * cells → p < pages → c < cells → after ≡ set items (p * cells + c) x → memory_of (at size pages cells after) ≡ with_cell p c x (memory_of (at size pages cells items))
write_memory size pages cells items after p c x sized lp lc e =
    memory_by size pages cells after (with_cell p c x (memory_of (at size pages cells items)))
    (λ q d lq ld. ap (λ (xs : List ℕ). get_or xs (q * cells + d) 0) e ∙ within q d lq ld (cases_eq (q * cells + d) (p * cells + c)))
    (λ q d le. sym (ap (λ b. cond b x (memory_of (at size pages cells items) q d)) (and_left _ _ (ne_eqb p q (λ h. absurd (omega (arith, h))))) ∙ outside_page size pages cells items q d le))
    (λ q d lq le. sym (ap (λ b. cond b x (memory_of (at size pages cells items) q d)) (and_right _ _ (ne_eqb c d (λ h. absurd (omega (arith, h))))) ∙ outside_cell size pages cells items q d le))
  where
    other : (q d : ℕ) → d < cells → (q * cells + d ≡ p * cells + c → ⊥) → ((p == q) && (c == d)) ≡ false
    other q d ld other_place = go (cases_Bool ((p == q) && (c == d)))
      where
        go : (((p == q) && (c == d)) ≡ true) ⊎ (((p == q) && (c == d)) ≡ false) → ((p == q) && (c == d)) ≡ false
        go (inl t) =
            let parts = and_parts (p == q) (c == d) t in
            let ep : p ≡ q = eqb-true p q parts.0 in
            let ec : c ≡ d = eqb-true c d parts.1 in
            absurd (other_place (ap (λ k. k * cells + d) (sym ep) ∙ ap (λ k. p * cells + k) (sym ec)))
        go (inr f) = f

    within : (q d : ℕ) → q < pages → d < cells → (q * cells + d ≡ p * cells + c) ⊎ (q * cells + d ≡ p * cells + c → ⊥) → get_or (set items (p * cells + c) x) (q * cells + d) 0 ≡ with_cell p c x (memory_of (at size pages cells items)) q d
    within q d lq ld (inl same) =
        let parts = same_from_place q d p c cells ld lc same in
        let lt : p * cells + c < length items = subst (λ n. p * cells + c < n) (sym sized) (place_lt pages cells p c lp lc) in
        ap (λ k. get_or (set items (p * cells + c) x) k 0) same ∙ get_or-set_same items (p * cells + c) x 0 lt
        ∙ sym (ap (λ b. cond b x (memory_of (at size pages cells items) q d)) (and_from _ _ (eq-eqb p q (sym parts.0)) (eq-eqb c d (sym parts.1))))
    within q d lq ld (inr differs) =
        get_or-set_other items (p * cells + c) (q * cells + d) x 0 differs
        ∙ sym (inside size pages cells items q d lq ld)
        ∙ sym (ap (λ b. cond b x (memory_of (at size pages cells items) q d)) (other q d ld differs))

-- cells of one page given anew
pub rows_memory : (size : Size) (pages cells : ℕ) (items after : List ℕ) (p : ℕ) (f : ℕ → ℕ) → p < pages → ((k : ℕ) → get_or after k 0 ≡ cond (leb (p * cells) k && ltb k (p * cells + cells)) (f (k - p * cells)) (get_or items k 0)) → ((d : ℕ) → cells ≤ d → f d ≡ 0) →
    memory_of (at size pages cells after) ≡ (λ q d. cond (p == q) (f d) (memory_of (at size pages cells items) q d))
rows_memory size pages cells items after p f lp e past =
    memory_by size pages cells after (λ q d. cond (p == q) (f d) (memory_of (at size pages cells items) q d))
    (λ q d lq ld. e (q * cells + d) ∙ within q d lq ld (cases_eq p q))
    (λ q d le. sym (ap (λ b. cond b (f d) (memory_of (at size pages cells items) q d)) (ne_eqb p q (λ h. absurd (omega (arith, h)))) ∙ outside_page size pages cells items q d le))
    (λ q d lq le. sym (cell q d le (cases_eq p q)))
  where
    cell : (q d : ℕ) → cells ≤ d → (p ≡ q) ⊎ (p ≡ q → ⊥) → cond (p == q) (f d) (memory_of (at size pages cells items) q d) ≡ 0
    cell q d le (inl same) = ap (λ b. cond b (f d) (memory_of (at size pages cells items) q d)) (eq-eqb p q same) ∙ past d le
    cell q d le (inr other_place) = ap (λ b. cond b (f d) (memory_of (at size pages cells items) q d)) (ne_eqb p q other_place) ∙ outside_cell size pages cells items q d le

    apart : (q d : ℕ) → d < cells → (p ≡ q → ⊥) → (leb (p * cells) (q * cells + d) && ltb (q * cells + d) (p * cells + cells)) ≡ false
    apart q d ld other_place = go (cases_lt q p)
      where
        go : (q < p) ⊎ (p ≤ q) → (leb (p * cells) (q * cells + d) && ltb (q * cells + d) (p * cells + cells)) ≡ false
        go (inl lt) = let h = page_fits p cells q lt in and_left _ _ (lt-leb (p * cells) (q * cells + d) (omega (arith, h)))
        go (inr ge) = let lt : p < q = omega (arith, other_place) in let h = page_fits q cells p lt in and_right _ _ (le-ltb (q * cells + d) (p * cells + cells) (omega (arith, h)))

    within : (q d : ℕ) → q < pages → d < cells → (p ≡ q) ⊎ (p ≡ q → ⊥) → cond (leb (p * cells) (q * cells + d) && ltb (q * cells + d) (p * cells + cells)) (f (q * cells + d - p * cells)) (get_or items (q * cells + d) 0) ≡ cond (p == q) (f d) (memory_of (at size pages cells items) q d)
    within q d lq ld (inl same) =
        let row : p * cells ≡ q * cells = ap (λ k. k * cells) same in
        let back : q * cells + d - p * cells ≡ d = omega (arith, row) in
        ap (λ b. cond b (f (q * cells + d - p * cells)) (get_or items (q * cells + d) 0)) (and_from _ _ (le-leb (p * cells) (q * cells + d) (omega (arith, row))) (lt-ltb (q * cells + d) (p * cells + cells) (omega (arith, row))))
        ∙ ap f back
        ∙ sym (ap (λ b. cond b (f d) (memory_of (at size pages cells items) q d)) (eq-eqb p q same))
    within q d lq ld (inr other_place) =
        ap (λ b. cond b (f (q * cells + d - p * cells)) (get_or items (q * cells + d) 0)) (apart q d ld other_place)
        ∙ sym (inside size pages cells items q d lq ld)
        ∙ sym (ap (λ b. cond b (f d) (memory_of (at size pages cells items) q d)) (ne_eqb p q other_place))

-- a list with some items in a row given anew, item by item
pub get_or-put : (xs ys : List ℕ) (from n : ℕ) → length ys ≡ n → from + n ≤ length xs → (k : ℕ) → get_or (take from xs ++ (ys ++ drop (from + n) xs)) k 0 ≡ cond (leb from k && ltb k (from + n)) (get_or ys (k - from) 0) (get_or xs k 0)
get_or-put xs ys from n sized le k = go (cases_lt k from) (cases_lt k (from + n))
  where
    front : length (take from xs) ≡ from
    front = omega (arith, length-take from xs)

    go : (k < from) ⊎ (from ≤ k) → (k < from + n) ⊎ (from + n ≤ k) → get_or (take from xs ++ (ys ++ drop (from + n) xs)) k 0 ≡ cond (leb from k && ltb k (from + n)) (get_or ys (k - from) 0) (get_or xs k 0)
    go (inl before) _ =
        get_or_append_left (take from xs) (ys ++ drop (from + n) xs) 0 k (omega (arith, front)) ∙ get_or-take from xs k 0 before
        ∙ sym (ap (λ b. cond b (get_or ys (k - from) 0) (get_or xs k 0)) (and_left _ _ (lt-leb from k before)))
    go (inr at_least) (inl within) =
        get_or-append_right (take from xs) (ys ++ drop (from + n) xs) from k 0 front at_least
        ∙ get_or_append_left ys (drop (from + n) xs) 0 (k - from) (omega arith)
        ∙ sym (ap (λ b. cond b (get_or ys (k - from) 0) (get_or xs k 0)) (and_from _ _ (le-leb from k at_least) (lt-ltb k (from + n) within)))
    go (inr at_least) (inr past) =
        get_or-append_right (take from xs) (ys ++ drop (from + n) xs) from k 0 front at_least
        ∙ get_or-append_right ys (drop (from + n) xs) n (k - from) 0 sized (omega arith)
        ∙ get_or-drop (from + n) xs (k - from - n) 0
        ∙ ap (λ i. get_or xs i 0) (omega arith)
        ∙ sym (ap (λ b. cond b (get_or ys (k - from) 0) (get_or xs k 0)) (and_right _ _ (le-ltb k (from + n) past)))

zeros_at : (n k : ℕ) → let none : ℕ = 0 in get_or (replicate n none) k none ≡ none
zeros_at zero k = refl
zeros_at (suc n) zero = refl
zeros_at (suc n) (suc k) = zeros_at n k

pub cells_put : (xs new ys : List ℕ) (from n : ℕ) → length ys ≡ n → from + n ≤ length xs → new ≡ take from xs ++ (ys ++ drop (from + n) xs) → (k : ℕ) → get_or new k 0 ≡ cond (leb from k && ltb k (from + n)) (get_or ys (k - from) 0) (get_or xs k 0)
cells_put xs new ys from n sized le e k =
    ap (λ (t : List ℕ). get_or t k 0) e ∙ get_or-put xs ys from n sized le k

pub zeros_put : (xs new : List ℕ) (from n : ℕ) → from + n ≤ length xs → new ≡ take from xs ++ (replicate n 0 ++ drop (from + n) xs) → (k : ℕ) → get_or new k 0 ≡ cond (leb from k && ltb k (from + n)) 0 (get_or xs k 0)
zeros_put xs new from n le e k =
    cells_put xs new (replicate n 0) from n (length-replicate n 0) le e k
    ∙ ap (λ (x : ℕ). cond (leb from k && ltb k (from + n)) x (get_or xs k 0)) (zeros_at n (k - from))

-- a page read from the cells
pub page_memory : (size : Size) (pages cells : ℕ) (items page : List ℕ) (p : ℕ) → length items ≡ pages * cells → p < pages → page ≡ take (p * cells + cells - p * cells) (drop (p * cells) items) → page ≡ page_of cells (memory_of (at size pages cells items)) p
page_memory size pages cells items page p sized lp e = e ∙ same_lists _ _ (len ∙ sym (length-map-range_with_len (memory_of (at size pages cells items) p) 0 cells)) each
  where
    n : ℕ
    n = p * cells + cells - p * cells

    len : length (take (p * cells + cells - p * cells) (drop (p * cells) items)) ≡ cells
    len = let h = page_fits pages cells p lp in omega (arith, length-take (p * cells + cells - p * cells) (drop (p * cells) items), length-drop (p * cells) items, h)

    each : (k d : ℕ) → k < length (take (p * cells + cells - p * cells) (drop (p * cells) items)) → get_or (take (p * cells + cells - p * cells) (drop (p * cells) items)) k d ≡ get_or (map (memory_of (at size pages cells items) p) (range_with_len 0 cells)) k d
    each k d lt =
        let lk : k < cells = omega (arith, len) in
        let lt2 : p * cells + k < length items = subst (λ m. p * cells + k < m) (sym sized) (place_lt pages cells p k lp lk) in
        get_or-take (p * cells + cells - p * cells) (drop (p * cells) items) k d (omega arith)
        ∙ get_or-drop (p * cells) items k d
        ∙ get_or_default items (p * cells + k) d 0 lt2
        ∙ sym (inside size pages cells items p k lp lk)
        ∙ sym (get_or-map-range_with_len (memory_of (at size pages cells items) p) 0 cells k k d lk (omega arith))

-- the same for frames that are known by their fields
pub write_frames : (f : Frames) (size : Size) (pages cells : ℕ) (items after : List ℕ) (p c x : ℕ) → at size pages cells items ≡ f → length items ≡ pages * cells → p < f.geometry.pages → c < f.geometry.cells → after ≡ set items (p * cells + c) x → IsWith f (at size pages cells after) (with_cell p c x (memory_of f))
write_frames f size pages cells items after p c x is sized lp lc e =
    subst (λ (g : Frames). p < g.geometry.pages → c < g.geometry.cells → IsWith g (at size pages cells after) (with_cell p c x (memory_of g))) is
    (λ lp lc. record { geometry = refl; memory_is = write_memory size pages cells items after p c x sized lp lc e }) lp lc

pub release_frames : (f : Frames) (size : Size) (pages cells : ℕ) (items after : List ℕ) (p : ℕ) → at size pages cells items ≡ f → length items ≡ pages * cells → p < f.geometry.pages → after ≡ take (p * cells) items ++ (replicate cells 0 ++ drop (p * cells + cells) items) → IsWith f (at size pages cells after) (with_zeros p (memory_of f))
release_frames f size pages cells items after p is sized lp e =
    subst (λ (g : Frames). p < g.geometry.pages → IsWith g (at size pages cells after) (with_zeros p (memory_of g))) is
    (λ lp.
    let fits = page_fits pages cells p lp in
    let each = zeros_put items after (p * cells) cells (omega arith) e in
    record { geometry = refl; memory_is = rows_memory size pages cells items after p (λ d. 0) lp each (λ d le. refl) }) lp

pub install_frames : (f : Frames) (size : Size) (pages cells : ℕ) (items after content : List ℕ) (p : ℕ) → at size pages cells items ≡ f → length items ≡ pages * cells → p < f.geometry.pages → length content ≡ f.geometry.cells → after ≡ take (p * cells) items ++ (content ++ drop (p * cells + length content) items) → IsWith f (at size pages cells after) (with_content p content (memory_of f))
install_frames f size pages cells items after content p is sized lp whole e =
    subst (λ (g : Frames). p < g.geometry.pages → length content ≡ g.geometry.cells → IsWith g (at size pages cells after) (with_content p content (memory_of g))) is
    (λ lp whole.
    let fits = page_fits pages cells p lp in
    let same = e ∙ ap (λ (n : ℕ). take (p * cells) items ++ (content ++ drop (p * cells + n) items)) whole in
    let each = cells_put items after content (p * cells) cells whole (omega arith) same in
    record { geometry = refl; memory_is = rows_memory size pages cells items after p (λ d. get_or content d 0) lp each (λ d le. get_or_past content d 0 (omega arith)) }) lp whole

pub page_frames : (f : Frames) (size : Size) (pages cells : ℕ) (items page whole : List ℕ) (p : ℕ) → at size pages cells items ≡ f → length items ≡ pages * cells → p < f.geometry.pages → whole ≡ items → page ≡ take (p * cells + cells - p * cells) (drop (p * cells) whole) → page ≡ page_of f.geometry.cells (memory_of f) p
page_frames f size pages cells items page whole p is sized lp same e =
    subst (λ (g : Frames). p < g.geometry.pages → page ≡ page_of g.geometry.cells (memory_of g) p) is
    (λ lp. page_memory size pages cells items page p sized lp (e ∙ ap (λ (xs : List ℕ). take (p * cells + cells - p * cells) (drop (p * cells) xs)) same)) lp
