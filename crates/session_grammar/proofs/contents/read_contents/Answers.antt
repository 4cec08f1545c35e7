use Rattle.std.proofs.Common.{◌≡◌, ℕ, List, ◌++◌, length, sym, ap, ◌∙◌, arith}
use Rattle.std.proofs.lemmas.List.{append-nil}
use Rattle.std.proofs.lemmas.Bool.Decides.{nat_tests}
use Rattle.text_lines.specs.Contents.{contents_text}
use Rattle.text_lines.proofs.Cut.{nil_from_test}
use Rattle.text_lines.proofs.Cells.{contents_length, contents_next}
use Rattle.session_grammar.proofs.contents.read_contents.Goals as goal

pub returns-then-text-count-clause-refused : goal.returns-then-text-count-clause-refused
returns-then-text-count-clause-refused c = λ _ xs fits e.
    let l : length c.args.text.now ≡ length (contents_text xs) = ap (λ (t : List ℕ). length t) e in
    let count = fits.count in
    absurd (omega (arith, l, contents_length xs))

pub returns-in_default-read_cell-clause-refused : goal.returns-in_default-read_cell-clause-refused
returns-in_default-read_cell-clause-refused c = λ _ xs fits e.
    let items = c.loop.items.items in
    let i = c.loop.invariant in
    let count = fits.count in
    let n = contents_next items xs c.loop.rest.now fits.each (sym i.so_far ∙ e) (omega (arith, i.count)) in
    c.in_default-read_cell.ensures n.0 n.1 (c.split_at.ensures.front ∙ n.2)

pub returns-clause-found : goal.returns-clause-found
returns-clause-found c =
    let rest = c.loop.rest.now in
    let items = c.loop.items.items in
    let i = c.loop.invariant in
    let left = i.left in
    let nil = nil_from_test rest (grind (arith, nat_tests)) in
    let whole = ap (λ (t : List ℕ). contents_text items ++ t) nil ∙ append-nil (contents_text items) in
    (record { count = omega (arith, i.count); each = i.each }, i.so_far ∙ whole)
