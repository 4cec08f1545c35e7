use Rattle.std.proofs.Common.{rules}
use Rattle.page_stream.proofs.Words.{cell_front}
use Rattle.page_stream.proofs.decoding.cell_at.Goals as goal

pub returns : goal.returns
returns c =
    cell_front c.args.bytes.now c.in_ok-front.front.now c.in_ok-front.rest.now c.from_be_bytes.result c.in_ok-front.ensures.cases.0 c.in_ok-front.ensures.cases.1 (search rules) (λ i. (c.type_inv.bytes i).fits) (search rules)
