-- Lines, and lists of which some items came.
use Rattle.std.proofs.Common.{◌≡◌, ℕ, zero, suc, List, [], ◌∷◌, ◌++◌, length, replicate, refl, ap, length-append, arith}
use Rattle.std.specs.List.{AllByRecursion}
use Rattle.std.specs.Fmt.{decimal}
use Rattle.std.proofs.lemmas.List.{append_cancel_left}
use Rattle.std.proofs.lemmas.Fmt.{decimal_injective}
use Rattle.std.specs.Prelude.{◌<◌, ◌^◌}

pub cons_parts : (a b : List ℕ) (xs ys : List (List ℕ)) → a ∷ xs ≡ b ∷ ys → (a ≡ b) × (xs ≡ ys)
cons_parts a b xs ys e = (cc, cc)

pub cons_same : (a b : List ℕ) (xs ys : List (List ℕ)) → a ≡ b → xs ≡ ys → a ∷ xs ≡ b ∷ ys
cons_same a b xs ys p q = cc

pub keyed_same : (key : List ℕ) (m n : ℕ) → m < 2 ^ 64 → n < 2 ^ 64 → key ++ decimal m ≡ key ++ decimal n → m ≡ n
keyed_same key m n p q e = decimal_injective m n p q (append_cancel_left key (decimal m) (decimal n) e)

pub all_replicate : {X : Type 0} (P : X → Type 0) (n : ℕ) (x : X) → P x → AllByRecursion P (replicate n x)
all_replicate P zero x h = tt
all_replicate P (suc n) x h = (h, all_replicate P n x h)

-- as many items as the list has: none is left
pub none_left : {X : Type 0} (v front back : List X) → v ≡ front ++ back → length v ≡ length front → back ≡ []
none_left v front [] e l = refl
none_left v front (x ∷ back) e l = let n = ap (λ (t : List _). length t) e in absurd (omega (arith, n, length-append front (x ∷ back), l))
