use Rattle.std.proofs.Common.{◌≡◌, ℕ, List, ap, length, sym, take, ◌∙◌}
use Rattle.std.proofs.lemmas.Bool.{eqb-true}
use Rattle.text_lines.proofs.Cells.{cell_length}
use Rattle.text_lines.proofs.Lanes.{take_16}
use Rattle.session_log.proofs.Spelled.{same_sixteen}
use Rattle.session_log.proofs.sent.is_cell.Goals as goal

pub returns : goal.returns
returns c = λ t.
    let text = c.args.text.now in
    let digits = c.cell_digits.ensures in
    let whole = take_16 text c.requires in
    let long : length c.cell_digits.result ≡ 16 = ap (λ (l : List ℕ). length l) digits ∙ cell_length c.args.value in
    let same = same_sixteen c.cell_digits.result (take 16 text) long (ap (λ (l : List ℕ). length l) whole ∙ c.requires) (eqb-true _ 65535 t) in
    sym whole ∙ sym same ∙ digits
