use Rattle.std.proofs.Common.{◌++◌, ◌∷◌, sym, ◌∙◌, arith}
use Rattle.std.specs.Fmt.{decimal}
use Rattle.std.proofs.lemmas.List.{append_cancel_left}
use Rattle.recorder_files.proofs.lines.two_behind.Goals as goal

pub returns-in-Err-clause-none : goal.returns-in-Err-clause-none
returns-in-Err-clause-none c = λ m n a b e.
    let split = c.in-Some-number_then.ensures.only m (decimal n) (omega arith) (append_cancel_left c.args.key.now c.in-Some.text.now (decimal m ++ 32 ∷ decimal n) (sym c.in-Some.ensures ∙ e)) in
    c.in-Err.ensures.refused n b (sym split.1)

pub returns-in-None-clause-none : goal.returns-in-None-clause-none
returns-in-None-clause-none c = λ m n a b e. c.in-None.ensures.none m (decimal n) (omega arith) (append_cancel_left c.args.key.now c.in-Some.text.now (decimal m ++ 32 ∷ decimal n) (sym c.in-Some.ensures ∙ e))
