-- Bytes, cut at their first line feed or 0.
use Rattle.std.proofs.Common.{◌≡◌, ℕ, zero, suc, ◌<◌, ◌≤◌, ◌⊎◌, inl, inr, Bool, true, false, ◌==◌, List, [], ◌∷◌, ◌++◌, length, get_or, Option, Some, refl, ap, ◌∙◌, arith}
use Rattle.std.specs.List.{AllByRecursion}
use Rattle.std.proofs.lemmas.Bool.Decides.{nat_tests}
use Rattle.memchr.specs.Find.{IsFirstByte, Passes, is_byte2}
use Rattle.recorder_files.specs.Said.{longest_line, IsInside}
use Rattle.recorder_files.specs.declared.pieces.NextLine.TheVariants.{Line, End, Long}
use Rattle.recorder_files.specs.inner.Finding.{Finds}

inside_of : (b : ℕ) → (is_byte2 10 0 b ≡ true → ⊥) → IsInside b
inside_of b none = (λ e. none (grind (arith, nat_tests, e)), λ e. none (grind (arith, nat_tests, e)))

-- no place has a line feed or a 0
pub all_inside : (bytes : List ℕ) → ((k : ℕ) → k < length bytes → Passes (is_byte2 10 0) bytes k → ⊥) → AllByRecursion IsInside bytes
all_inside [] none = tt
all_inside (b ∷ bytes) none = (inside_of b (none 0 (omega arith)), all_inside bytes (λ k lt. none (suc k) (omega arith)))

-- where the first of them is, the bytes are cut there
pub record IsCutAt (bytes : List ℕ) (at : ℕ) : Type 0 where
  pub line : List ℕ
  pub more : List ℕ
  pub parts : bytes ≡ line ++ get_or bytes at 0 ∷ more
  pub inside : AllByRecursion IsInside line
  pub counted : length line ≡ at
  pub byte : (get_or bytes at 0 ≡ 10) ⊎ (get_or bytes at 0 ≡ 0)

byte_of : (b : ℕ) → is_byte2 10 0 b ≡ true → (b ≡ 10) ⊎ (b ≡ 0)
byte_of b e = by_test (b == 10) refl
  where
    by_test : (t : Bool) → (b == 10) ≡ t → (b ≡ 10) ⊎ (b ≡ 0)
    by_test true is = inl (grind (arith, nat_tests, is))
    by_test false is = inr (grind (arith, nat_tests, is, e))

cut_from : (bytes : List ℕ) (at : ℕ) → at < length bytes → ((k : ℕ) → k < at → Passes (is_byte2 10 0) bytes k → ⊥) → Passes (is_byte2 10 0) bytes at → IsCutAt bytes at
cut_from [] at lt none is = absurd (omega arith)
cut_from (b ∷ bytes) zero lt none is = record { line = []; more = bytes; parts = refl; inside = tt; counted = refl; byte = byte_of b is }
cut_from (b ∷ bytes) (suc at) lt none is =
    let rest = cut_from bytes at (omega arith) (λ k below. none (suc k) (omega arith)) is in
    record { line = b ∷ rest.line; more = rest.more; parts = ap (λ (xs : List ℕ). b ∷ xs) rest.parts; inside = (inside_of b (none 0 (omega arith)), rest.inside); counted = ap suc rest.counted; byte = rest.byte }

pub cut_at : (bytes : List ℕ) (at : ℕ) → IsFirstByte (is_byte2 10 0) bytes (Some at) → IsCutAt bytes at
cut_at bytes at first = cut_from bytes at first.0.high (λ k below. first.0.before k (omega arith) below) first.1

-- ---- what is found there

pub finds_long : (rest : Option (List ℕ)) (bytes : List ℕ) (at : ℕ) → IsFirstByte (is_byte2 10 0) bytes (Some at) → longest_line < at → Finds rest bytes Long
finds_long rest bytes at first long = let cut = cut_at bytes at first in (cut.line, get_or bytes at 0 ∷ cut.more, cut.parts, cut.inside, omega (arith, cut.counted, long))

pub finds_end : (rest : Option (List ℕ)) (bytes : List ℕ) (at : ℕ) → IsFirstByte (is_byte2 10 0) bytes (Some at) → at ≤ longest_line → get_or bytes at 0 ≡ 0 → Finds rest bytes End
finds_end rest bytes at first short is_zero = let cut = cut_at bytes at first in (cut.line, get_or bytes at 0 ∷ cut.more, cut.parts, record { inside = cut.inside; short = omega (arith, cut.counted, short) }, is_zero)

pub finds_line : (rest : Option (List ℕ)) (bytes : List ℕ) (at : ℕ) → IsFirstByte (is_byte2 10 0) bytes (Some at) → at ≤ longest_line → (get_or bytes at 0 ≡ 0 → ⊥) → Finds rest bytes (Line at)
finds_line rest bytes at first short not_zero =
    let cut = cut_at bytes at first in
    (cut.line, cut.more, cut.parts ∙ ap (λ (b : ℕ). cut.line ++ b ∷ cut.more) (by_byte (get_or bytes at 0) not_zero cut.byte), record { inside = cut.inside; short = omega (arith, cut.counted, short) }, cut.counted)
  where
    by_byte : (b : ℕ) → (b ≡ 0 → ⊥) → (b ≡ 10) ⊎ (b ≡ 0) → b ≡ 10
    by_byte b none (inl is) = is
    by_byte b none (inr is) = absurd (none is)
