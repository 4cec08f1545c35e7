use Rattle.std.proofs.lemmas.Result.{err_from_is_err_and}
use Rattle.guest_script.proofs.Letters.{no_fates_text}
use Rattle.guest_script.proofs.fates.read_fates.Goals as goal

pub returns-in_err-fates-clause-refused : goal.returns-in_err-fates-clause-refused
returns-in_err-fates-clause-refused c = let p = err_from_is_err_and c.from_residual.result c.from_residual.ensures.1 in rw (p.1, p.2) (λ other fates few.
    no_fates_text c.args.key.now c.args.line.now c.in-Some.text.now c.in-Some.ensures (λ e. let f = c.if-is_line.ensures.1 e in absurd cc) (c.in_err-fates.ensures.refused other) fates)
