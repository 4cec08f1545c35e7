-- What holds of each item of a list.
use Rattle.std.proofs.Common.{◌≡◌, ℕ, zero, suc, List, [], ◌∷◌, ◌++◌, map, replicate, refl}
use Rattle.std.specs.List.{AllByRecursion}

pub all_at : {X : Type 0} (P : X → Type 0) (front : List X) (x : X) (back : List X) → AllByRecursion P (front ++ x ∷ back) → P x
all_at P [] x back h = h.0
all_at P (y ∷ front) x back h = all_at P front x back h.1

pub all_append : {X : Type 0} (P : X → Type 0) (xs ys : List X) → AllByRecursion P xs → AllByRecursion P ys → AllByRecursion P (xs ++ ys)
all_append P [] ys h k = k
all_append P (x ∷ xs) ys h k = (h.0, all_append P xs ys h.1 k)

pub all_replicate : {X : Type 0} (P : X → Type 0) (n : ℕ) (x : X) → P x → AllByRecursion P (replicate n x)
all_replicate P zero x h = tt
all_replicate P (suc n) x h = (h, all_replicate P n x h)

-- lists whose items are spelled alike are the same, where a spelling tells the item
pub spelled_same : {X : Type 0} (spell : X → List ℕ) (P : X → Type 0) → ((x y : X) → P x → P y → spell x ≡ spell y → x ≡ y) → (xs ys : List X) → AllByRecursion P xs → AllByRecursion P ys → map spell xs ≡ map spell ys → xs ≡ ys
spelled_same spell P tells [] [] h k e = refl
spelled_same spell P tells [] (y ∷ ys) h k e = absurd cc
spelled_same spell P tells (x ∷ xs) [] h k e = absurd cc
spelled_same spell P tells (x ∷ xs) (y ∷ ys) h k e =
    let heads : spell x ≡ spell y = cc in
    let tails : map spell xs ≡ map spell ys = cc in
    let one = tells x y h.0 k.0 heads in
    let rest = spelled_same spell P tells xs ys h.1 k.1 tails in
    cc
