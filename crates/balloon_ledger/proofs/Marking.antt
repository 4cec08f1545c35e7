-- What the marks of a ledger say of its set.
use Rattle.std.proofs.Common.{◌≡◌, ℕ, ◌+◌, ◌<◌, ◌&&◌, Bool, false, not, cond, List, [], ◌∷◌, ◌++◌, length, map, get_or, refl, sym, ap, ◌∙◌, arith}
use Rattle.std.specs.List.{range_with_len, filter, count_by}
use Rattle.std.proofs.lemmas.Bool.{lt-ltb}
use Rattle.std.proofs.lemmas.List.{map-id, get_or_default}
use Rattle.std.proofs.lemmas.List.FromFn.{fill_by_all, filter_of_map_range_with_len_more}
use Rattle.std.proofs.lemmas.List.Sums.{sum_by-cons}
use Rattle.migration_types.specs.PageSets.{Pages, size_below, others}
use Rattle.balloon_ledger.specs.Released.{Marks, released, pages_below}

-- a page of the machine is in the set exactly where it is marked
pub released_within : (m : Marks) (k : ℕ) → k < m.geometry.pages → get_or m.marks k false ≡ released m k
released_within m k lt = sym (ap (λ b. b && get_or m.marks k false) (lt-ltb k m.geometry.pages lt))

count_by-map : {X Y : Type 0} (p : Y → Bool) (f : X → Y) (xs : List X) → count_by p (map f xs) ≡ count_by (λ x. p (f x)) xs
count_by-map p f [] = refl
count_by-map p f (x ∷ xs) =
    sum_by-cons (λ y. cond (p y) 1 0) (f x) (map f xs)
    ∙ ap (λ n. cond (p (f x)) 1 0 + n) (count_by-map p f xs)
    ∙ sym (sum_by-cons (λ y. cond (p (f y)) 1 0) x xs)

-- the pages without a mark are those that are not in the set
pub count_marks : (m : Marks) → length m.marks ≡ m.geometry.pages → count_by not m.marks ≡ size_below m.geometry.pages (others (released m))
count_marks m sized =
    ap (count_by not) (fill_by_all (released m) m.marks m.geometry.pages false sized (released_within m))
    ∙ count_by-map not (released m) (range_with_len 0 m.geometry.pages)

pages_more : (set : Pages) (n : ℕ) → pages_below (n + 1) set ≡ pages_below n set ++ cond (set n) (n ∷ []) []
pages_more set n =
    sym (ap (filter set) (map-id (range_with_len 0 (n + 1))))
    ∙ filter_of_map_range_with_len_more set (λ k. k) 0 n n (omega arith)
    ∙ ap (λ xs. filter set xs ++ cond (set n) (n ∷ []) []) (map-id (range_with_len 0 n))

-- a list of the pages below a number, with one page more where it is marked
pub pages_more_marked : (m : Marks) (n : ℕ) (marked : Bool) → length m.marks ≡ m.geometry.pages → n < m.geometry.pages → marked ≡ get_or m.marks n marked → pages_below (n + 1) (released m) ≡ pages_below n (released m) ++ cond marked (n ∷ []) []
pages_more_marked m n marked sized lt is =
    pages_more (released m) n
    ∙ ap (λ b. pages_below n (released m) ++ cond b (n ∷ []) []) (sym (is ∙ get_or_default m.marks n marked false (omega (arith, sized)) ∙ released_within m n lt))
