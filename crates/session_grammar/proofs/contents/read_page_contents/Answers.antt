use Rattle.std.proofs.Common.{◌≡◌, ℕ, ◌<◌, ◌^◌, List, [], ◌∷◌, length, ◌∙◌, arith}
use Rattle.std.proofs.lemmas.List.{append-nil}
use Rattle.text_lines.specs.Contents.{cell_text, contents_text}
use Rattle.migration_types.specs.Contents.{IsContent}
use Rattle.session_grammar.proofs.contents.read_page_contents.Goals as goal

-- the text of one cell is that cell's
one_cell : (text : List ℕ) (xs : List ℕ) → length xs ≡ 1 → IsContent (length xs) xs → text ≡ contents_text xs → (x : ℕ) × (x < 2 ^ 64) × (text ≡ cell_text x)
one_cell text [] one fits e = absurd (omega arith)
one_cell text (x ∷ []) one fits e = (x, fits.each.0, e ∙ append-nil (cell_text x))
one_cell text (x ∷ y ∷ xs) one fits e = absurd (omega arith)

pub returns-in_default-clause-refused : goal.returns-in_default-clause-refused
returns-in_default-clause-refused c = λ _ xs fits e.
    let count = fits.count in
    let one = one_cell c.args.text.now xs (omega arith) (record { count = omega arith; each = fits.each }) e in
    c.in_default.ensures one.0 one.1 one.2
