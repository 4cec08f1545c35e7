use Rattle.std.proofs.Common.{◌∙◌, sym, arith}
use Rattle.std.specs.Fmt.{decimal}
use Rattle.std.proofs.lemmas.Fmt.{decimal_injective}
use Rattle.std.proofs.lemmas.List.{append_cancel_left}
use Rattle.text_lines.proofs.fields.read_some.Goals as goal

pub returns-then-number-eq0-clause-refused : goal.returns-then-number-eq0-clause-refused
returns-then-number-eq0-clause-refused c = λ n some few e.
    let zero = c.if-number-eq0.true in
    let found = c.in_ok-number.ensures.found in
    let same = decimal_injective n c.in_ok-number.number (omega arith) (omega (arith, found.0)) (append_cancel_left c.args.key.now (decimal n) (decimal c.in_ok-number.number) (sym e ∙ found.1)) in
    absurd (omega arith)
