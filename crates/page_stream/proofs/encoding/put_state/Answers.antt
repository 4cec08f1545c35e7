use Rattle.std.proofs.Common.{◌++◌, length, ap, ◌∙◌}
use Rattle.std.specs.List.{flat_map}
use Rattle.page_stream.specs.Bytes.{number_bytes}
use Rattle.page_stream.proofs.Words.{state_bytes}
use Rattle.page_stream.proofs.encoding.put_state.Goals as goal

pub returns : goal.returns
returns c =
    c.in_ok-put_numbers.ensures
    ∙ ap (λ t. t ++ flat_map number_bytes c.args.released.now) (c.in_ok-put_number.ensures ∙ ap (λ t. t ++ number_bytes (length c.args.released.now)) c.in_ok-put_head.ensures)
    ∙ state_bytes c.args.out.now.items c.args.number c.args.released.now
