-- The digits of a cell, as they are written.
use Rattle.std.proofs.Common.{◌≡◌, ℕ, ◌+◌, ◌*◌, ◌/◌, ◌%◌, ◌^◌, ◌<◌, List, [], ◌∷◌, ◌++◌, cond, get_or, refl, sym, ap, ◌∙◌, arith, nat_lt, bit_and}
use Rattle.std.specs.List.{AllByRecursion}
use Rattle.std.specs.Simd.Lanes.{digits_l, number_l, top}
use Rattle.std.proofs.lemmas.Simd.{get_or_narrower}
use Rattle.std.specs.Int.{w64, to_be_bytes}
use Rattle.std.proofs.lemmas.List.FromFn.{get_or-map-range_with_len}
use Rattle.std.proofs.lemmas.Nat.{and_mask}
use Rattle.hex.specs.Hex.{encode_with, lower_digits}
use Rattle.text_lines.specs.Contents.{cell_text}

abbrev pub written : ℕ → ℕ
written n = ((n + 48) % 256 + cond (top 7 (cond (nat_lt n 10) 255 0)) 0 39) % 256

written_at : (n : ℕ) → n < 16 → written n ≡ get_or lower_digits n 0
written_at n lt = sym (get_or-map-range_with_len written 0 16 n n 0 lt (omega arith))

abbrev pub two_written : List ℕ → List ℕ
two_written [] = []
two_written (b ∷ bytes) = written (b / 16) ∷ written (bit_and b 15) ∷ two_written bytes

all_written : (bytes : List ℕ) → AllByRecursion (λ b. b < 256) bytes → two_written bytes ≡ encode_with lower_digits bytes
unfolding encode_with
all_written [] h = refl
all_written (b ∷ bytes) h =
    let byte : b < 256 = h.0 in
    let high = written_at (b / 16) (omega arith) in
    let low = ap written (and_mask b 4) ∙ written_at (b % 16) (omega arith) in
    let rest = all_written bytes h.1 in
    cc

cell_written : (x : ℕ) → two_written (to_be_bytes w64 x) ≡ cell_text x
cell_written x = all_written (to_be_bytes w64 x) (omega arith, (omega arith, (omega arith, (omega arith, (omega arith, (omega arith, (omega arith, (omega arith, tt))))))))

module _ (a b : ℕ) (p : a < 2 ^ 64) (q : b < 2 ^ 64) where
  -- a byte of one of the two, counted from its lowest
  abbrev byte : ℕ → ℕ → ℕ
  byte j i = get_or (digits_l 256 16 (number_l (2 ^ 64) (a ∷ b ∷ []))) (8 * j + i) 0

  -- its bytes, the highest first
  abbrev turned : ℕ → List ℕ
  turned j = byte j 7 ∷ byte j 6 ∷ byte j 5 ∷ byte j 4 ∷ byte j 3 ∷ byte j 2 ∷ byte j 1 ∷ byte j 0 ∷ []

  turned_is : (j : ℕ) → j < 2 → turned j ≡ to_be_bytes w64 (get_or (a ∷ b ∷ []) j 0)
  turned_is j few =
      let x = get_or (a ∷ b ∷ []) j 0 in
      let at = λ (i : ℕ) (lt : i < 8). get_or_narrower (2 ^ 64) 8 256 16 (a ∷ b ∷ []) j i refl (p, (q, tt)) lt (omega arith) in
      let low : byte j 0 ≡ x % 256 = at 0 (omega arith) ∙ omega arith in
      λ k. at 7 (omega arith) k ∷ at 6 (omega arith) k ∷ at 5 (omega arith) k ∷ at 4 (omega arith) k ∷ at 3 (omega arith) k ∷ at 2 (omega arith) k ∷ at 1 (omega arith) k ∷ low k ∷ []

  pub cells_written : two_written (turned 0) ++ two_written (turned 1) ≡ cell_text a ++ cell_text b
  cells_written =
      let first = ap two_written (turned_is 0 (omega arith)) ∙ cell_written a in
      let second = ap two_written (turned_is 1 (omega arith)) ∙ cell_written b in
      λ k. first k ++ second k
