-- Lines that are taken from a buffer and a reader.
use Rattle.std.proofs.Common.{◌≡◌, ℕ, zero, suc, ◌+◌, ◌-◌, ◌<◌, ◌≤◌, List, [], ◌∷◌, ◌++◌, length, take, drop, Option, Some, None, refl, sym, ap, subst, ◌∙◌, append_assoc, length-append, length-take-le, length-drop, arith}
use Rattle.std.specs.Prelude.{slice_range}
use Rattle.std.specs.Io.KnownBytes.{Consumes}
use Rattle.std.proofs.Math.Nat.{sub-zero}
use Rattle.std.proofs.Math.Seq.{take-append_seam}
use Rattle.std.proofs.lemmas.List.{drop-take, drop-drop}
use Rattle.text_lines.specs.Text.{ended}
use Rattle.text_lines.proofs.Cut.{ended-push}
use Rattle.text_lines.proofs.Counting.{all_append}
use Rattle.recorder_files.specs.Said.{IsWritten, Stops}
use Rattle.recorder_files.specs.declared.pieces.NextLine.TheVariants.{Line, End, Long}
use Rattle.recorder_files.specs.inner.Finding.{AreAll, AreRead, Finds, IsLong, SameBytes, StopsAt}

-- ---- reading on

pub from_front : (buffer : List ℕ) (n : ℕ) → take n buffer ≡ slice_range buffer 0 n
from_front buffer n = ap (λ (k : ℕ). take k buffer) (sym (sub-zero n))

-- ---- a line that is taken

in_front : (n k : ℕ) (xs line more : List ℕ) → take k xs ≡ line ++ 10 ∷ more → length line ≡ n → suc n ≤ k → (take n xs ≡ line) × (take (k - suc n) (drop (suc n) xs) ≡ more)
in_front n k xs line more parts counted lt =
    let whole : n + (k - n) ≡ k = omega (arith, lt) in
    let whole_more : suc n + (k - suc n) ≡ k = omega (arith, lt) in (
      first xs n k (omega (arith, lt)) ∙ (ap (take n) parts ∙ (ap (λ (j : ℕ). take j (line ++ 10 ∷ more)) (sym counted) ∙ take-append_seam line (10 ∷ more))),
      sym (drop-take (suc n) (k - suc n) xs) ∙ (ap (λ (j : ℕ). drop (suc n) (take j xs)) whole_more ∙ (ap (drop (suc n)) parts ∙ (ap (λ (j : ℕ). drop (suc j) (line ++ 10 ∷ more)) (sym counted) ∙ behind line more))),
    )
  where
    first : (xs : List ℕ) (n k : ℕ) → n ≤ k → take n xs ≡ take n (take k xs)
    first [] zero k le = refl
    first [] (suc n) zero le = absurd (omega arith)
    first [] (suc n) (suc k) le = refl
    first (x ∷ xs) zero k le = refl
    first (x ∷ xs) (suc n) zero le = absurd (omega arith)
    first (x ∷ xs) (suc n) (suc k) le = ap (λ (ys : List ℕ). x ∷ ys) (first xs n k (omega arith))

    behind : (line more : List ℕ) → drop (suc (length line)) (line ++ 10 ∷ more) ≡ more
    behind [] more = refl
    behind (x ∷ line) more = behind line more

pub record IsCutOut (buffer : List ℕ) (start end n : ℕ) (line more : List ℕ) : Type 0 where
  pub is_line : slice_range buffer start (start + n) ≡ line
  pub is_more : slice_range buffer (start + n + 1) end ≡ more
  pub within : start + n < end

pub cut_out : (buffer : List ℕ) (start end n : ℕ) (line more : List ℕ) → start ≤ end → end ≤ length buffer → slice_range buffer start end ≡ line ++ 10 ∷ more → length line ≡ n → IsCutOut buffer start end n line more
cut_out buffer start end n line more order within parts counted =
    let xs = drop start buffer in
    let room : end - start ≤ length xs = omega (arith, length-drop start buffer) in
    let full : end - start ≡ n + suc (length more) = omega (arith, sym (length-take-le (end - start) xs room), ap length parts, length-append line (10 ∷ more), counted) in
    let both = in_front n (end - start) xs line more parts counted (omega (arith, full)) in
    let some : (start + n) - start ≡ n = omega arith in
    let rest : end - (start + n + 1) ≡ end - start - suc n = omega (arith, full) in
    let at : start + suc n ≡ start + n + 1 = omega arith in
    record {
      is_line = ap (λ (k : ℕ). take k xs) some ∙ both.0;
      is_more = ap (λ (k : ℕ). take k (drop (start + n + 1) buffer)) rest ∙ (ap (take (end - start - suc n)) (ap (λ (k : ℕ). drop k buffer) (sym at) ∙ sym (drop-drop (suc n) start buffer)) ∙ both.1);
      within = omega (arith, full, order);
    }

pub line_taken : (known old rest : Option (List ℕ)) (before buffer : List ℕ) (start end n : ℕ) (lines : List (List ℕ)) → start ≤ end → end ≤ length buffer → SameBytes old before rest (slice_range buffer start end) → Finds rest (slice_range buffer start end) (Line n) → AreRead known old before lines → AreRead known rest (slice_range buffer (start + n + 1) end) (lines ++ slice_range buffer start (start + n) ∷ [])
line_taken known old rest before buffer start end n lines order within same (line, after, parts, written, counted) read =
    let cut = cut_out buffer start end n line after order within parts counted in
    record {
      written = all_append IsWritten lines (slice_range buffer start (start + n) ∷ []) read.written (subst IsWritten (sym cut.is_line) written, tt);
      consumed = subst (Consumes known rest) (ap (λ (w : List ℕ). ended lines ++ w) parts ∙ (sym (ended-push lines line after) ∙ (ap (λ (l : List ℕ). ended (lines ++ l ∷ []) ++ after) (sym cut.is_line) ∙ ap (λ (w : List ℕ). ended (lines ++ slice_range buffer start (start + n) ∷ []) ++ w) (sym cut.is_more)))) (same known (ended lines) read.consumed);
    }

-- ---- where no line is taken

pub all_taken : (known old rest : Option (List ℕ)) (before bytes : List ℕ) (lines : List (List ℕ)) → SameBytes old before rest bytes → Finds rest bytes End → AreRead known old before lines → AreAll known lines
all_taken None old rest before bytes lines same (line, more, parts, written, stops) read = record {
  bytes = ended lines ++ [];
  is_known = tt;
  whole = record { rest = []; parts = refl; written = read.written; unwritten = record { line = []; more = []; parts = refl; written = record { inside = tt; short = omega arith }; stops = tt } };
}
all_taken (Some xs) old None before bytes lines same (line, more, parts, written, stops) read = absurd (same (Some xs) (ended lines) read.consumed)
all_taken (Some xs) old (Some ys) before bytes lines same (line, more, parts, written, stops) read =
    let all : xs ≡ ended lines ++ (line ++ (more ++ ys)) = same (Some xs) (ended lines) read.consumed ∙ (append_assoc (ended lines) bytes ys ∙ (ap (λ (w : List ℕ). ended lines ++ (w ++ ys)) parts ∙ ap (λ (w : List ℕ). ended lines ++ w) (append_assoc line more ys))) in
    record {
      bytes = ended lines ++ (line ++ (more ++ ys));
      is_known = sym all;
      whole = record { rest = line ++ (more ++ ys); parts = refl; written = read.written; unwritten = record { line = line; more = more ++ ys; parts = refl; written = written; stops = still more stops } };
    }
  where
    still : (more : List ℕ) → StopsAt (Some ys) more → Stops (more ++ ys)
    still [] none = subst Stops (sym none) tt
    still (b ∷ more) is = is

pub long_at : (known old rest : Option (List ℕ)) (before bytes : List ℕ) (lines : List (List ℕ)) → SameBytes old before rest bytes → Finds rest bytes Long → AreRead known old before lines → IsLong known lines
long_at None old rest before bytes lines same (line, more, parts, inside, long) read = record { line = line; after = []; is_known = tt; written = read.written; inside = inside; long = long }
long_at (Some xs) old None before bytes lines same (line, more, parts, inside, long) read = absurd (same (Some xs) (ended lines) read.consumed)
long_at (Some xs) old (Some ys) before bytes lines same (line, more, parts, inside, long) read =
    let all : xs ≡ ended lines ++ (line ++ (more ++ ys)) = same (Some xs) (ended lines) read.consumed ∙ (append_assoc (ended lines) bytes ys ∙ (ap (λ (w : List ℕ). ended lines ++ (w ++ ys)) parts ∙ ap (λ (w : List ℕ). ended lines ++ w) (append_assoc line more ys))) in
    record { line = line; after = more ++ ys; is_known = sym all; written = read.written; inside = inside; long = long }
