use Rattle.std.proofs.Common.{◌∙◌, sym, arith}
use Rattle.std.proofs.lemmas.Fmt.{decimal_injective}
use Rattle.guest_script.proofs.op_form.read_limited.Goals as goal

pub returns-then-number-limit : goal.returns-then-number-limit
returns-then-number-limit c = λ n le e.
    let over = c.if-number-limit.true in
    let same = decimal_injective n c.in_ok-number.number (omega arith) (omega arith) (sym e ∙ c.in_ok-number.ensures) in
    absurd (omega (arith, same, le, over))
