-- Where a line ends, by the bits of a mask.
use Rattle.std.proofs.Common.{◌≡◌, ℕ, ◌+◌, ◌-◌, ◌<◌, ◌≤◌, ◌^◌, List, ltb, length, map, take, drop, get_or, Some, sym, ap, subst, ◌∙◌, length-take, arith, inl, inr, true}
use Rattle.std.specs.Int.{w64, bit_at}
use Rattle.std.specs.Simd.Lanes.{mask_l}
use lib.Count.{count_trailing_zeros}
use Rattle.std.proofs.Math.Nat.{pow-le-pow_right}
use Rattle.std.proofs.lemmas.Bool.{ltb-false, cases_lt}
use Rattle.std.proofs.lemmas.Bool.Decides.{nat_tests}
use Rattle.std.proofs.lemmas.List.{get_or-drop, get_or-take, length-map}
use Rattle.std.proofs.lemmas.Nat.Bits.{bit_at_above, bit_at-zero, bit_at-trailing_zeros}
use Rattle.std.proofs.lemmas.Simd.{mask_l-lt}
use Rattle.memchr.specs.Find.{IsFirstByte, is_byte2}
use Rattle.text_lines.proofs.EightLaws.{lane, cond_zero}

-- a bit for each of the bytes, which is set if the byte is at most a line feed
abbrev pub low_mask : List ℕ → ℕ
low_mask xs = mask_l (map (λ x. ltb x 11) xs)

pub low_fits : (xs : List ℕ) (m : ℕ) → length xs ≡ 32 → m ≡ low_mask xs → m < 2 ^ 32
low_fits xs m long is = omega (arith, is, subst (λ (k : ℕ). low_mask xs < 2 ^ k) (length-map xs (λ (x : ℕ). ltb x 11) ∙ long) (mask_l-lt (map (λ (x : ℕ). ltb x 11) xs)))

-- the bytes whose bits are not set
abbrev pub AreHigh : List ℕ → ℕ → Type 0
AreHigh bytes m = (i : ℕ) → i < 32 → bit_at m i ≡ 0 → 11 ≤ get_or bytes i 0

pub low_from : (bytes : List ℕ) (m : ℕ) → 32 ≤ length bytes → m ≡ low_mask (take 32 bytes) → AreHigh bytes m
low_from bytes m room is = λ i lt none.
    let xs = take 32 bytes in
    let at : 11 ≤ get_or xs i 0 = ltb-false (get_or xs i 0) 11 (cond_zero (ltb (get_or xs i 0) 11) (sym (lane (λ (x : ℕ). ltb x 11) xs i (omega (arith, length-take 32 bytes))) ∙ (ap (λ (k : ℕ). bit_at k i) (sym is) ∙ none))) in
    subst (λ (x : ℕ). 11 ≤ x) (get_or-take 32 bytes i 0 lt) at

-- ---- the lowest bit that is set

pub record IsLowest (bytes : List ℕ) (e : ℕ) : Type 0 where
  pub within : e < 32
  pub high : (i : ℕ) → i < e → 11 ≤ get_or bytes i 0

pub lowest : (bytes : List ℕ) (m : ℕ) → m < 2 ^ 32 → AreHigh bytes m → 0 < m → IsLowest bytes (count_trailing_zeros 64 m)
lowest bytes m fits high some =
    let e : ℕ = count_trailing_zeros 64 m in
    let wide : 2 ^ 32 ≤ 2 ^ 64 = pow-le-pow_right {n = 2} (omega arith) {i = 32} {j = 64} (omega arith) in
    let t = bit_at-trailing_zeros w64 m some (omega arith) in
    let here : bit_at m e ≡ 1 = t.1 in
    let below : (i : ℕ) → i < e → bit_at m i ≡ 0 = t.2 in
    let within : e < 32 = elim (cases_lt e 32) [
      | inl lt ↦ lt
      | inr from ↦ absurd (omega (arith, here, bit_at_above m 32 e fits from))
    ] in
    record { within = within; high = λ i lt. high i (omega arith) (below i lt) }

-- the same in the next thirty-two bytes
pub later : (bytes : List ℕ) (low e : ℕ) → low ≡ 0 → AreHigh bytes low → IsLowest (drop 32 bytes) e → (i : ℕ) → i < 32 + e → 11 ≤ get_or bytes i 0
later bytes low e none high next i lt = elim (cases_lt i 32) [
  | inl near ↦ high i near (ap (λ (m : ℕ). bit_at m i) none ∙ bit_at-zero i)
  | inr far ↦
      let same : 32 + (i - 32) ≡ i = omega arith in
      subst (λ (x : ℕ). 11 ≤ x) (get_or-drop 32 bytes (i - 32) 0 ∙ ap (λ (j : ℕ). get_or bytes j 0) same) (next.high (i - 32) (omega arith))
]

-- ---- a line feed there

high_none : (b : ℕ) → 11 ≤ b → is_byte2 10 0 b ≡ true → ⊥
high_none b high is = grind (arith, nat_tests, is, high)

feed : (b : ℕ) → b ≡ 10 → is_byte2 10 0 b ≡ true
feed b is = grind (arith, nat_tests, is)

pub first_feed : (bytes : List ℕ) (at : ℕ) → at < length bytes → ((i : ℕ) → i < at → 11 ≤ get_or bytes i 0) → get_or bytes at 0 ≡ 10 → IsFirstByte (is_byte2 10 0) bytes (Some at)
first_feed bytes at within high is = (record { low = omega arith; high = within; before = λ k from lt p. high_none (get_or bytes k 0) (high k lt) p }, feed (get_or bytes at 0) is)
