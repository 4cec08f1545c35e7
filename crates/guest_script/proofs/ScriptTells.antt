-- A line tells what it says.
use Rattle.std.proofs.Common.{◌≡◌, ℕ, ◌≤◌, List, [], ◌∷◌, ◌++◌, map, get_or, refl, ap, arith}
use Rattle.std.specs.Prelude.{codes}
use Rattle.std.specs.Fmt.{decimal}
use Rattle.std.proofs.lemmas.List.{append_cancel_left}
use Rattle.std.proofs.lemmas.Fmt.{decimal_injective}
use Rattle.migration_types.specs.Extents.{Extent, IsExtent}
use Rattle.migration_events.specs.declared.events.Fate.{Fate}
use Rattle.migration_events.specs.declared.events.Fate.TheVariants.{Deliver, Lose, Repeat, Back}
use Rattle.migration_events.specs.declared.ops.Op.{Op}
use Rattle.migration_events.specs.declared.ops.Op.TheVariants.{Read, Write, Release}
use Rattle.migration_events.specs.Ops.{OpFits}
use Rattle.session_grammar.proofs.Tells.{number_tells}
use Rattle.guest_script.specs.Scripts.{vcpu_key, fate_letter, fates_text, place_text, value_text, op_line, counts_line}

letter_tells : (x y : Fate) → fate_letter x ≡ fate_letter y → x ≡ y
letter_tells Deliver Deliver e = refl
letter_tells Lose Lose e = refl
letter_tells Repeat Repeat e = refl
letter_tells Back Back e = refl
letter_tells x y e = absurd (omega (arith, e))

no_dash : (x : Fate) → 45 ≡ fate_letter x → ⊥
no_dash Deliver e = omega (arith, e)
no_dash Lose e = omega (arith, e)
no_dash Repeat e = omega (arith, e)
no_dash Back e = omega (arith, e)

pub letters_tell : (xs ys : List Fate) → map fate_letter xs ≡ map fate_letter ys → xs ≡ ys
letters_tell [] [] e = refl
letters_tell [] (y ∷ ys) e = absurd cc
letters_tell (x ∷ xs) [] e = absurd cc
letters_tell (x ∷ xs) (y ∷ ys) e =
    let head : fate_letter x ≡ fate_letter y = cc in
    let tail : map fate_letter xs ≡ map fate_letter ys = cc in
    let one = letter_tells x y head in
    let rest = letters_tell xs ys tail in
    cc

pub fates_tell : (xs ys : List Fate) → fates_text xs ≡ fates_text ys → xs ≡ ys
fates_tell [] [] e = refl
fates_tell [] (y ∷ ys) e = let head : 45 ≡ fate_letter y = cc in absurd (no_dash y head)
fates_tell (x ∷ xs) [] e = let head : 45 ≡ fate_letter x = cc in absurd (no_dash x head)
fates_tell (x ∷ xs) (y ∷ ys) e = letters_tell (x ∷ xs) (y ∷ ys) e

pub counts_tell : (b a n m : ℕ) → b ≤ 65536 → a ≤ 65536 → n ≤ 65536 → m ≤ 65536 → counts_line b a ≡ counts_line n m → (b ≡ n) × (a ≡ m)
counts_tell b a n m p q r s e =
    let parts = number_tells b n (decimal a) (decimal m) (omega arith) (omega arith) (append_cancel_left vcpu_key (decimal b ++ 32 ∷ decimal a) (decimal n ++ 32 ∷ decimal m) e) in
    (parts.0, decimal_injective a m (omega arith) (omega arith) parts.1)

abbrev first_letter : List ℕ → ℕ
first_letter line = get_or line 0 0

pub op_tells : (e : Extent) → IsExtent e → (x y : Op) → OpFits e x → OpFits e y → op_line x ≡ op_line y → x ≡ y
op_tells e h (Read p c) (Read q d) a b same =
    let few_pages = h.few_pages in
    let few_cells = h.few_cells in
    let one = number_tells p q (decimal c) (decimal d) (omega (arith, a.0)) (omega (arith, b.0)) (append_cancel_left (codes "r ") (place_text p c) (place_text q d) same) in
    let two = decimal_injective c d (omega (arith, a.1)) (omega (arith, b.1)) one.1 in
    rw (one.0, two) refl
op_tells e h (Write p c x) (Write q d y) a b same =
    let few_pages = h.few_pages in
    let few_cells = h.few_cells in
    let one = number_tells p q (decimal c ++ 32 ∷ decimal x) (decimal d ++ 32 ∷ decimal y) (omega (arith, a.0)) (omega (arith, b.0)) (append_cancel_left (codes "w ") (value_text p c x) (value_text q d y) same) in
    let two = number_tells c d (decimal x) (decimal y) (omega (arith, a.1)) (omega (arith, b.1)) one.1 in
    let three = decimal_injective x y a.2 b.2 two.1 in
    rw (one.0, two.0, three) refl
op_tells e h (Release p) (Release q) a b same =
    let few_pages = h.few_pages in
    let one = decimal_injective p q (omega (arith, a)) (omega (arith, b)) (append_cancel_left (codes "z ") (decimal p) (decimal q) same) in
    rw one refl
op_tells e h x y a b same = let first : first_letter (op_line x) ≡ first_letter (op_line y) = ap first_letter same in absurd (omega (arith, first))
