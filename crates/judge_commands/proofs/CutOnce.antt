-- An input that has a line `end` is cut in one way.
use Rattle.std.proofs.Common.{◌≡◌, ◌≢◌, ℕ, ◌<◌, List, [], ◌∷◌, ◌++◌, length, refl, sym, subst, ap, ◌∙◌, append_assoc, arith, codes, inl, inr}
use Rattle.std.specs.Prelude.{◌==◌}
use Rattle.std.specs.List.{AllByRecursion}
use Rattle.std.proofs.lemmas.List.{append_cancel_left}
use Rattle.std.proofs.lemmas.List.Splits.{length-slice_split}
use Rattle.text_lines.specs.Text.{ended, lines_of, IsLine}
use Rattle.text_lines.proofs.Counting.{all_append}
use Rattle.text_lines.proofs.Cut.{lines_of-ended, lines_of-last}
use Rattle.text_lines.proofs.Plain.{plain_codes}
use Rattle.command_texts.specs.Cutting.{HasNoEnd, IsCutAtEnd}

same_before : (e : List ℕ) (xs ys front back : List (List ℕ)) → AllByRecursion (λ x. x ≢ e) xs → AllByRecursion (λ x. x ≢ e) ys → xs ++ e ∷ front ≡ ys ++ e ∷ back → xs ≡ ys
same_before e [] [] front back h k same = refl
same_before e [] (y ∷ ys) front back h k same = let head : y ≡ e = cc in absurd (k.0 head)
same_before e (x ∷ xs) [] front back h k same = let head : x ≡ e = cc in absurd (h.0 head)
same_before e (x ∷ xs) (y ∷ ys) front back h k same =
    let tails : xs ++ e ∷ front ≡ ys ++ e ∷ back = cc in
    let rest = same_before e xs ys front back h.1 k.1 tails in
    cc

not_before_last : (e last : List ℕ) (xs ys more : List (List ℕ)) → AllByRecursion (λ x. x ≢ e) ys → 0 < length more → xs ++ e ∷ more ≡ ys ++ last ∷ [] → ⊥
not_before_last e last [] [] [] h some same = absurd (omega arith)
not_before_last e last [] [] (m ∷ more) h some same = absurd cc
not_before_last e last [] (y ∷ ys) more h some same = let head : y ≡ e = cc in h.0 head
not_before_last e last (x ∷ []) [] more h some same = absurd cc
not_before_last e last (x ∷ z ∷ xs) [] more h some same = absurd cc
not_before_last e last (x ∷ xs) (y ∷ ys) more h some same =
    let tails : xs ++ e ∷ more ≡ ys ++ last ∷ [] = cc in
    not_before_last e last xs ys more h.1 some tails

lines_seen : (input rest : List ℕ) (before : List (List ℕ)) → HasNoEnd before → input ≡ ended (before ++ codes "end" ∷ []) ++ rest → lines_of input ≡ before ++ codes "end" ∷ lines_of rest
lines_seen input rest before h e =
    ap lines_of e
    ∙ (lines_of-ended (before ++ codes "end" ∷ []) rest (all_append IsLine before (codes "end" ∷ []) h.plain (plain_codes (codes "end") refl, tt))
    ∙ append_assoc before (codes "end" ∷ []) (lines_of rest))

-- the first text is what the first line `end` ends, and the second is the rest
pub cut_once : (input rest first second : List ℕ) (before : List (List ℕ)) → HasNoEnd before → input ≡ ended (before ++ codes "end" ∷ []) ++ rest → IsCutAtEnd input first second → (first ≡ ended (before ++ codes "end" ∷ [])) × (second ≡ rest)
cut_once input rest first second before h e (inl c) =
    let seen = sym (lines_seen input rest before h e) ∙ lines_seen input second c.lines c.before (c.parts ∙ ap (λ (t : List ℕ). t ++ second) c.first_text) in
    let same = same_before (codes "end") before c.lines (lines_of rest) (lines_of second) h.none c.before.none seen in
    let is : first ≡ ended (before ++ codes "end" ∷ []) = c.first_text ∙ ap (λ (t : List (List ℕ)). ended (t ++ codes "end" ∷ [])) (sym same) in
    (is, append_cancel_left (ended (before ++ codes "end" ∷ [])) second rest (ap (λ (t : List ℕ). t ++ second) (sym is) ∙ (sym c.parts ∙ e)))
cut_once input rest first second before h e (inr c) =
    let whole = ap lines_of c.whole ∙ (lines_of-ended c.lines c.unended c.before.plain ∙ ap (λ (t : List (List ℕ)). c.lines ++ t) (lines_of-last c.unended c.last)) in
    let some : 0 < length (lines_of rest) = omega (arith, length-slice_split (λ b. b == 10) rest) in
    absurd (not_before_last (codes "end") c.unended before c.lines (lines_of rest) c.before.none some (sym (lines_seen input rest before h e) ∙ whole))
