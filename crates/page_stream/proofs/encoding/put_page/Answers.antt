use Rattle.std.proofs.Common.{◌++◌, ap, ◌∙◌}
use Rattle.std.specs.List.{flat_map}
use Rattle.page_stream.specs.Bytes.{number_bytes, cell_bytes}
use Rattle.page_stream.proofs.Words.{page_bytes}
use Rattle.page_stream.proofs.encoding.put_page.Goals as goal

pub returns : goal.returns
returns c =
    c.in_ok-put_cells.ensures
    ∙ ap (λ t. t ++ flat_map cell_bytes c.args.cells.now) (c.in_ok-put_number.ensures ∙ ap (λ t. t ++ number_bytes c.number.result) c.in_ok-put_head.ensures)
    ∙ rw c.number.ensures.value (page_bytes c.args.out.now.items c.args.number c.args.page c.args.cells.now)
