use Rattle.std.proofs.Common.{◌≡◌, ◌==◌, ℕ, ◌+◌, true, false, List, [], ◌∷◌, ◌++◌, length, get_or, take, drop, Some, refl, sym, ap, ◌∙◌, arith, position, append_assoc, length-append}
use Rattle.std.specs.List.{list_all, position_or_len}
use Rattle.std.proofs.lemmas.Bool.{and_parts, eqb-true, lt-ltb}
use Rattle.std.proofs.lemmas.Bool.Decides.{nat_tests}
use Rattle.std.proofs.lemmas.Grind.{common_steps}
use Rattle.std.proofs.lemmas.List.{take_at, drop_at, drop_more, take-append-drop}
use Rattle.std.proofs.lemmas.List.Quantifiers.{position-Some}
use Rattle.std.proofs.lemmas.Option.{same_Some}
use Rattle.recorder_files.specs.Names.{is_digit, AreDigits}

-- The first dot is the one behind the digits of the process.
no_dot : (b : ℕ) → is_digit b ≡ true → (b == 46) ≡ false
no_dot b h = grind (arith, nat_tests, common_steps)

dot_or_len : (process number : List ℕ) → list_all is_digit process ≡ true → position_or_len (λ b. b == 46) (process ++ 46 ∷ number) ≡ length process
dot_or_len [] number h = refl
dot_or_len (b ∷ process) number h =
    let both = and_parts (is_digit b) (list_all is_digit process) h in
    let n : (b == 46) ≡ false = no_dot b both.0 in
    let rest : position_or_len (λ b. b == 46) (process ++ 46 ∷ number) ≡ length process = dot_or_len process number both.1 in
    rw n (grind (arith, common_steps))

pub dot_is : (text process number : List ℕ) → AreDigits process → text ≡ process ++ 46 ∷ number → position (λ b. b == 46) text ≡ Some (length process)
dot_is text process number h e =
    let at : position_or_len (λ b. b == 46) (process ++ 46 ∷ number) ≡ length process = dot_or_len process number (and_parts _ (list_all is_digit process) h).1 in
    let long : length (process ++ 46 ∷ number) ≡ length process + length (46 ∷ number) = length-append process (46 ∷ number) in
    rw (e, at, lt-ltb (length process) (length (process ++ 46 ∷ number)) (omega arith)) refl

pub parts_at : (text process number : List ℕ) (at : ℕ) → AreDigits process → text ≡ process ++ 46 ∷ number → Some at ≡ position (λ b. b == 46) text → (take at text ≡ process) × (drop (at + 1) text ≡ number)
parts_at text process number at h e is =
    let n : length process ≡ at = sym (same_Some at (length process) (is ∙ dot_is text process number h e)) in
    let long : length (process ++ 46 ∷ []) ≡ at + 1 = length-append process (46 ∷ []) ∙ ap (λ k. k + 1) n in (
      ap (λ (xs : List ℕ). take at xs) e ∙ take_at process (46 ∷ number) at n,
      ap (λ (xs : List ℕ). drop (at + 1) xs) (e ∙ sym (append_assoc process (46 ∷ []) number)) ∙ drop_at (process ++ 46 ∷ []) number (at + 1) long,
    )

pub cut_at : (text : List ℕ) (at : ℕ) → Some at ≡ position (λ b. b == 46) text → text ≡ take at text ++ 46 ∷ drop (at + 1) text
cut_at text at is =
    let here = position-Some (λ b. b == 46) text at 0 (sym is) in
    let dot : get_or text at 0 ≡ 46 = eqb-true (get_or text at 0) 46 here.1 in
    sym (take-append-drop at text) ∙ ap (λ (xs : List ℕ). take at text ++ xs) (drop_more text at 0 here.0 ∙ ap (λ b. b ∷ drop (at + 1) text) dot)
