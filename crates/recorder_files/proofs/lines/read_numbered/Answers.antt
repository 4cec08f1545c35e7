use Rattle.std.proofs.Common.{◌≡◌, ◌∷◌, ℕ, List, length, sym, ap, ◌∙◌, arith}
use Rattle.text_lines.proofs.Fronts.{numbers_same, no_digit-space}
use Rattle.recorder_files.proofs.lines.read_numbered.Goals as goal

pub returns-then-number-from-clause-none : goal.returns-then-number-from-clause-none
returns-then-number-from-clause-none c = λ n text le e.
    let f = c.in-Some.ensures.found in
    let same = numbers_same c.in-Some.number n c.in-Some.after.now (32 ∷ text) f.2 (omega arith) f.1 (no_digit-space text) (sym f.0 ∙ e) in
    let equal = same.0 in
    absurd (omega arith)

pub returns-in_default-split_first-clause-none : goal.returns-in_default-split_first-clause-none
returns-in_default-split_first-clause-none c = λ n text le e.
    let f = c.in-Some.ensures.found in
    let same = numbers_same c.in-Some.number n c.in-Some.after.now (32 ∷ text) f.2 (omega arith) f.1 (no_digit-space text) (sym f.0 ∙ e) in
    let cut = same.1 in
    absurd (omega (arith, ap (λ (t : List ℕ). length t) cut, c.in_default-split_first.ensures.cases))

pub returns-then-space-ne32-clause-none : goal.returns-then-space-ne32-clause-none
returns-then-space-ne32-clause-none c = λ n text le e.
    let f = c.in-Some.ensures.found in
    let same = numbers_same c.in-Some.number n c.in-Some.after.now (32 ∷ text) f.2 (omega arith) f.1 (no_digit-space text) (sym f.0 ∙ e) in
    let cut = sym c.in-Some-split_first.ensures.cases.0 ∙ same.1 in
    let is : c.in-Some-split_first.space.now ≡ 32 = cc in
    c.if-space-ne32.true is
