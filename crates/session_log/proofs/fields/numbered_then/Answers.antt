use Rattle.std.proofs.Common.{sym, ◌∙◌, arith}
use Rattle.std.specs.Fmt.{decimal}
use Rattle.std.proofs.lemmas.List.{append_cancel_left}
use Rattle.session_log.proofs.fields.numbered_then.Goals as goal

pub returns-in_err-number-clause-whole : goal.returns-in_err-number-clause-whole
returns-in_err-number-clause-whole c = λ n lt e. absurd (c.in_err-number.ensures.whole n (omega (arith, lt, c.from.ensures, c.past_records.ensures.value)) (append_cancel_left c.args.key.now c.in_ok-after_key.field-0.now (decimal n) (sym c.in_ok-after_key.ensures ∙ e)))

pub returns-clause-whole : goal.returns-clause-whole
returns-clause-whole c = λ n lt e. c.in_ok-number.ensures.whole n (omega (arith, lt, c.from.ensures, c.past_records.ensures.value)) (append_cancel_left c.args.key.now c.in_ok-after_key.field-0.now (decimal n) (sym c.in_ok-after_key.ensures ∙ e))
