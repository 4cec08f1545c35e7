-- Where digits end, by the bits of a mask of any width.
use Rattle.std.proofs.Common.{◌≡◌, ◌≢◌, ℕ, zero, suc, ◌+◌, ◌-◌, ◌*◌, ◌/◌, ◌%◌, ◌<◌, ◌≤◌, ◌^◌, List, [], ◌∷◌, Bool, cond, leb, length, drop, map, get_or, refl, ap, subst, ◌∙◌, sym, arith, inl, inr}
use Rattle.std.specs.Int.{w8, w64, bit_at}
use Rattle.std.specs.Int.RustNames.{bit_and}
use Rattle.std.specs.Simd.Lanes.{mask_l, top, zip2}
use lib.Count.{count_trailing_zeros}
use Rattle.std.proofs.Math.Nat.{pow-suc, pow-le-pow_right, mul_comm, mul_assoc, add-mul}
use Rattle.std.proofs.lemmas.Bool.{leb-false, cases_lt}
use Rattle.std.proofs.lemmas.List.{get_or-drop, length-map}
use Rattle.std.proofs.lemmas.Nat.{pow_pos, pow-add, mul-add-lt, and_le_l}
use Rattle.std.proofs.lemmas.Nat.Bits.{bit_at_and, bit_at_above, bit_at_ones_above, bit_at_cat_low, bit_at_cat_high, bit_at-zero, bit_at-trailing_zeros, same_from_bits_below}
use Rattle.std.proofs.lemmas.Simd.{tops_compared, mask_l-lt, mask_l-mod}
use Rattle.text_lines.specs.inner.Blocks.{digit_less, AreEnds}
use Rattle.text_lines.proofs.Lanes.{sixteen}
use Rattle.text_lines.proofs.EightLaws.{lane, cond_zero}

-- ---- the mask of the numbers from ten on

compared : (xs : List ℕ) → length xs ≡ 16 → zip2 leb (10 ∷ 10 ∷ 10 ∷ 10 ∷ 10 ∷ 10 ∷ 10 ∷ 10 ∷ 10 ∷ 10 ∷ 10 ∷ 10 ∷ 10 ∷ 10 ∷ 10 ∷ 10 ∷ []) xs ≡ map (leb 10) xs
compared xs long = rw (sixteen xs long) refl

pub large_is : (xs : List ℕ) → length xs ≡ 16 → mask_l (map (top 7) (zip2 (λ a b. cond (leb a b) 255 0) (10 ∷ 10 ∷ 10 ∷ 10 ∷ 10 ∷ 10 ∷ 10 ∷ 10 ∷ 10 ∷ 10 ∷ 10 ∷ 10 ∷ 10 ∷ 10 ∷ 10 ∷ 10 ∷ []) xs)) % 2 ^ 64 ≡ mask_l (map (leb 10) xs)
large_is xs long =
    ap (λ (ms : List Bool). mask_l ms % 2 ^ 64) (tops_compared w8 leb (10 ∷ 10 ∷ 10 ∷ 10 ∷ 10 ∷ 10 ∷ 10 ∷ 10 ∷ 10 ∷ 10 ∷ 10 ∷ 10 ∷ 10 ∷ 10 ∷ 10 ∷ 10 ∷ []) xs ∙ compared xs long)
    ∙ mask_l-mod (map (leb 10) xs) 64 (omega (arith, length-map xs (leb 10)))

pub large_fits : (xs : List ℕ) (m : ℕ) → length xs ≡ 16 → m ≡ mask_l (map (leb 10) xs) → m < 2 ^ 16
large_fits xs m long is = omega (arith, is, subst (λ (k : ℕ). mask_l (map (leb 10) xs) < 2 ^ k) (length-map xs (leb 10) ∙ long) (mask_l-lt (map (leb 10) xs)))

pub large_from : (xs : List ℕ) (m i : ℕ) → length xs ≡ 16 → m ≡ mask_l (map (leb 10) xs) → i < 16 → bit_at m i ≡ 0 → get_or xs i 0 < 10
large_from xs m i long is lt none =
    leb-false 10 (get_or xs i 0) (cond_zero (leb 10 (get_or xs i 0)) (sym (lane (leb 10) xs i (omega arith)) ∙ (ap (λ (k : ℕ). bit_at k i) (sym is) ∙ none)))

-- ---- masks side by side

pub both_ends : (text : List ℕ) (n k a b : ℕ) → AreEnds text 0 n a → AreEnds (drop n text) 0 k b → AreEnds text 0 (n + k) (b * 2 ^ n + a)
both_ends text n k a b first second = record {
  before = λ i lt. absurd (omega arith);
  digits = λ i from to none. elim (cases_lt i n) [
    | inl low ↦ first.digits i (omega arith) low (sym (bit_at_cat_low b n a i low) ∙ none)
    | inr high ↦
        let at = second.digits (i - n) (omega arith) (omega arith) (sym (bit_at_cat_high b n a i first.fits high) ∙ none) in
        let same : n + (i - n) ≡ i = omega arith in
        subst (λ (x : ℕ). digit_less x < 10) (get_or-drop n text (i - n) 0 ∙ ap (λ (j : ℕ). get_or text j 0) same) at
  ];
  fits = subst (λ (x : ℕ). b * 2 ^ n + a < x) (sym (pow-add 2 n k)) (mul-add-lt b (2 ^ n) a (2 ^ k) second.fits first.fits);
}

-- ---- the lowest bit that is set

rest_of : (m e : ℕ) → ((i : ℕ) → i < e → bit_at m i ≡ 0) → m % 2 ^ e ≡ 0
rest_of m e below =
    let pos = pow_pos e in
    let parts : m ≡ m / 2 ^ e * 2 ^ e + m % 2 ^ e = omega (arith, mul_comm (m / 2 ^ e) (2 ^ e)) in
    same_from_bits_below e (m % 2 ^ e) 0 (omega arith) pos (λ i lt.
    sym (bit_at_cat_low (m / 2 ^ e) e (m % 2 ^ e) i lt) ∙ (ap (λ (x : ℕ). bit_at x i) (sym parts) ∙ (below i lt ∙ sym (bit_at-zero i))))

-- the bits above the lowest, and the lowest
parts_of : (m e : ℕ) → bit_at m e ≡ 1 → ((i : ℕ) → i < e → bit_at m i ≡ 0) → m ≡ m / 2 ^ e / 2 * 2 ^ (e + 1) + 2 ^ e
parts_of m e here below =
    let pos = pow_pos e in
    let odd : m / 2 ^ e ≡ m / 2 ^ e / 2 * 2 + 1 = omega arith in
    let next : 2 ^ (e + 1) ≡ 2 * 2 ^ e = ap (λ (k : ℕ). 2 ^ k) (omega arith) ∙ (pow-suc 2 e ∙ mul_comm (2 ^ e) 2) in
    let whole : m ≡ m / 2 ^ e * 2 ^ e = omega (arith, rest_of m e below, mul_comm (m / 2 ^ e) (2 ^ e)) in
    let spread : (m / 2 ^ e / 2 * 2 + 1) * 2 ^ e ≡ m / 2 ^ e / 2 * 2 * 2 ^ e + 1 * 2 ^ e = add-mul (m / 2 ^ e / 2 * 2) 1 (2 ^ e) in
    let twice : m / 2 ^ e / 2 * 2 * 2 ^ e ≡ m / 2 ^ e / 2 * 2 ^ (e + 1) = mul_assoc (m / 2 ^ e / 2) 2 (2 ^ e) ∙ ap (λ (x : ℕ). m / 2 ^ e / 2 * x) (sym next) in
    whole ∙ (ap (λ (x : ℕ). x * 2 ^ e) odd ∙ (spread ∙ omega (arith, twice)))

-- `m & (m - 1)`, where the lowest bit of m is bit e
pub record LosesLowest (m e : ℕ) : Type 0 where
  pub before : (i : ℕ) → i < e + 1 → bit_at (bit_and m (m - 1)) i ≡ 0
  pub after : (i : ℕ) → e + 1 ≤ i → bit_at (bit_and m (m - 1)) i ≡ bit_at m i

pub lowest_lost : (m e : ℕ) → bit_at m e ≡ 1 → ((i : ℕ) → i < e → bit_at m i ≡ 0) → LosesLowest m e
lowest_lost m e here below =
    let q : ℕ = m / 2 ^ e / 2 in
    let pos = pow_pos e in
    let parts = parts_of m e here below in
    let less : m - 1 ≡ q * 2 ^ (e + 1) + (2 ^ e - 1) = omega arith in
    let double : 2 ^ (e + 1) ≡ 2 ^ e * 2 = ap (λ (k : ℕ). 2 ^ k) (omega arith) ∙ pow-suc 2 e in
    record {
      before = λ i lt. elim (cases_lt i e) [
        | inl low ↦ bit_at_and m (m - 1) i ∙ omega (arith, below i low)
        | inr high ↦
            let is : i ≡ e = omega arith in
            let off : bit_at (m - 1) e ≡ 0 = ap (λ (x : ℕ). bit_at x e) less ∙ (bit_at_cat_low q (e + 1) (2 ^ e - 1) e (omega arith) ∙ bit_at_ones_above e e (omega arith)) in
            subst (λ (j : ℕ). bit_at (bit_and m (m - 1)) j ≡ 0) (sym is) (bit_at_and m (m - 1) e ∙ omega (arith, off))
      ];
      after = λ i le.
          let high : bit_at m i ≡ bit_at q (i - (e + 1)) = ap (λ (x : ℕ). bit_at x i) parts ∙ bit_at_cat_high q (e + 1) (2 ^ e) i (omega arith) le in
          let same : bit_at (m - 1) i ≡ bit_at q (i - (e + 1)) = ap (λ (x : ℕ). bit_at x i) less ∙ bit_at_cat_high q (e + 1) (2 ^ e - 1) i (omega arith) le in
          bit_at_and m (m - 1) i ∙ omega (arith, high, same);
    }

pub some_left : (m : ℕ) → bit_and m (m - 1) ≢ 0 → 0 < m
some_left zero some = absurd (some refl)
some_left (suc m) some = omega arith

-- ---- from a mask to the next end

pub record IsNextEnd (text : List ℕ) (start count m e : ℕ) : Type 0 where
  pub ordered : start ≤ e
  pub within : e < count
  pub digits : (i : ℕ) → start ≤ i → i < e → digit_less (get_or text i 0) < 10
  pub later : AreEnds text (e + 1) count (bit_and m (m - 1))

pub next_end : (text : List ℕ) (start count m : ℕ) → AreEnds text start count m → count ≤ 64 → 0 < m → IsNextEnd text start count m (count_trailing_zeros 64 m)
next_end text start count m ends le some =
    let e : ℕ = count_trailing_zeros 64 m in
    let fits : m < 2 ^ count = ends.fits in
    let wide : 2 ^ count ≤ 2 ^ 64 = pow-le-pow_right {n = 2} (omega arith) {i = count} {j = 64} le in
    let t = bit_at-trailing_zeros w64 m some (omega arith) in
    let here : bit_at m e ≡ 1 = t.1 in
    let below : (i : ℕ) → i < e → bit_at m i ≡ 0 = t.2 in
    let lost = lowest_lost m e here below in
    let ordered : start ≤ e = elim (cases_lt e start) [
      | inl lt ↦ absurd (omega (arith, here, ends.before e lt))
      | inr from ↦ from
    ] in
    let within : e < count = elim (cases_lt e count) [
      | inl lt ↦ lt
      | inr from ↦ absurd (omega (arith, here, bit_at_above m count e fits from))
    ] in
    record {
      ordered = ordered;
      within = within;
      digits = λ i from lt. ends.digits i from (omega arith) (below i lt);
      later = record {
        before = lost.before;
        digits = λ i from lt none. ends.digits i (omega arith) lt (sym (lost.after i from) ∙ none);
        fits = omega (arith, fits, and_le_l m (m - 1));
      };
    }
