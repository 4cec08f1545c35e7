-- How many pages are released, from how many are not.
use Rattle.std.proofs.Common.{◌≡◌, ℕ, ◌+◌, Bool, true, false, cond, not, List, [], ◌∷◌, length, refl, ◌∙◌, arith}
use Rattle.std.specs.List.{count_by, range_with_len}
use Rattle.std.proofs.lemmas.List.FromFn.{length-range_with_len}
use Rattle.std.proofs.lemmas.List.Sums.{sum_by-cons}
use Rattle.migration_types.specs.PageSets.{Pages, size_below, others}

one_of_both : (b : Bool) → cond b 1 0 + cond (not b) 1 0 ≡ 1
one_of_both true = refl
one_of_both false = refl

split : {X : Type 0} (p : X → Bool) (xs : List X) → count_by p xs + count_by (λ x. not (p x)) xs ≡ length xs
split p [] = refl
split p (x ∷ xs) =
    let here : count_by p (x ∷ xs) ≡ cond (p x) 1 0 + count_by p xs = sum_by-cons (λ y. cond (p y) 1 0) x xs in
    let there : count_by (λ y. not (p y)) (x ∷ xs) ≡ cond (not (p x)) 1 0 + count_by (λ y. not (p y)) xs = sum_by-cons (λ y. cond (not (p y)) 1 0) x xs in
    omega (arith, here, there, one_of_both (p x), split p xs)

-- each page is in the set or not
pub both : (pages : ℕ) (set : Pages) → size_below pages set + size_below pages (others set) ≡ pages
both pages set = split set (range_with_len 0 pages) ∙ length-range_with_len 0 pages
