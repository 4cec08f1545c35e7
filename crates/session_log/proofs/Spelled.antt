-- Digits that are compared all at once.
use Rattle.std.proofs.Common.{◌≡◌, ℕ, ◌+◌, ◌*◌, ◌^◌, ◌%◌, List, [], ◌∷◌, Bool, true, false, cond, eqb, length, map, refl, ap, sym, ◌∙◌, arith, w8}
use Rattle.std.proofs.Math.Nat.{pow-succ'}
use Rattle.std.specs.Simd.Lanes.{mask_l, top, zip2}
use Rattle.std.proofs.lemmas.Simd.{length-zip2, mask_l-mod, tops_compared}
use Rattle.std.proofs.lemmas.Bool.{eqb-true}

mask_parts : (t : Bool) (m k : ℕ) → cond t 1 0 + 2 * m + 1 ≡ 2 * k → (t ≡ true) × (m + 1 ≡ k)
mask_parts true m k e = (refl, omega arith)
mask_parts false m k e = absurd (omega arith)

-- lists are one if the mask of their comparison is full
same_by_mask : (xs ys : List ℕ) → length xs ≡ length ys → mask_l (zip2 eqb xs ys) + 1 ≡ 2 ^ length xs → xs ≡ ys
same_by_mask [] [] long e = refl
same_by_mask [] (y ∷ ys) long e = absurd (omega arith)
same_by_mask (x ∷ xs) [] long e = absurd (omega arith)
same_by_mask (x ∷ xs) (y ∷ ys) long e =
    let parts = mask_parts (eqb x y) (mask_l (zip2 eqb xs ys)) (2 ^ length xs) (e ∙ pow-succ' 2 (length xs)) in
    let head = eqb-true x y parts.0 in
    let tail = same_by_mask xs ys (omega arith) parts.1 in
    cc

pub same_sixteen : (xs ys : List ℕ) → length xs ≡ 16 → length ys ≡ 16 → mask_l (map (top 7) (zip2 (λ a b. cond (eqb a b) 255 0) xs ys)) % 2 ^ 64 ≡ 65535 → xs ≡ ys
same_sixteen xs ys p q e =
    let long = length-zip2 eqb xs ys (p ∙ sym q) in
    let mask : mask_l (zip2 eqb xs ys) ≡ 65535 = sym (mask_l-mod (zip2 eqb xs ys) 64 (omega arith)) ∙ ap (λ ms. mask_l ms % 2 ^ 64) (sym (tops_compared w8 eqb xs ys)) ∙ e in
    let full : 2 ^ length xs ≡ 65536 = ap (λ (k : ℕ). 2 ^ k) p in
    same_by_mask xs ys (p ∙ sym q) (omega arith)
