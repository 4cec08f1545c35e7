-- Facts that hold of each item of a list.
use Rattle.std.proofs.Common.{◌≡◌, ℕ, zero, suc, List, [], ◌∷◌, Some, refl, subst}
use Rattle.std.specs.Prelude.{slice_get}
use Rattle.std.specs.List.{AllByRecursion}

-- it holds of the item at a place
pub each_at : {A : Type 0} (P : A → Type 0) (xs : List A) (n : ℕ) (x : A) → AllByRecursion P xs → slice_get xs n ≡ Some x → P x
each_at P [] n x all is = absurd cc
each_at {A} P (y ∷ xs) zero x all is = let same : y ≡ x = cc in subst (λ (z : A). P z) same all.0
each_at P (y ∷ xs) (suc n) x all is = each_at P xs n x all.1 is

-- it holds of each item where it holds at each place
pub each_from : {A : Type 0} (P : A → Type 0) (xs : List A) → ((n : ℕ) (x : A) → slice_get xs n ≡ Some x → P x) → AllByRecursion P xs
each_from P [] at = tt
each_from P (x ∷ xs) at = (at 0 x refl, each_from P xs (λ n y is. at (suc n) y is))
