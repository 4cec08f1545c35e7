use Rattle.std.proofs.Common.{◌≡◌, ℕ, ◌*◌, ◌/◌, List, length, ap, ◌∙◌, sym, arith}
use Rattle.text_lines.specs.Contents.{contents_text}
use Rattle.text_lines.proofs.Cells.{contents_length}

-- how many cells a text of contents has
pub cells_in : (text cells : List ℕ) → contents_text cells ≡ text → length text / 16 ≡ length cells
cells_in text cells e = let n : length text ≡ 16 * length cells = sym (ap length e) ∙ contents_length cells in omega arith
