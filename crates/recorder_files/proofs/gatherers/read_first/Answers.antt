use Rattle.std.proofs.Common.{◌+◌, false, arith}
use Rattle.std.specs.Prelude.{nat_le}
use Rattle.std.proofs.lemmas.Result.{err_from_is_err_and}
use Rattle.recorder_files.specs.Logs.{nothing_of}
use Rattle.recorder_files.proofs.Gathering.{are_begun, same_files, this_is_next, this_is_done, others_stay, all_are_done}
use Rattle.recorder_files.proofs.gatherers.read_first.Goals as goal

pub loop-i-init : goal.loop-i-init
loop-i-init g c = λ party knowns begun. are_begun party knowns c.args.files.now c.args.heads.now c.requires begun

pub returns-in_err-read_on-clause-refused : goal.returns-in_err-read_on-clause-refused
returns-in_err-read_on-clause-refused g c =
    let p = err_from_is_err_and c.from_residual.result c.from_residual.ensures.1 in
    rw (p.1, p.2) (λ party knowns begun gathering log. c.in_err-read_on.ensures.refused party knowns (nothing_of c.args.files.now) 0 (nat_le c.loop-i.i) (c.loop-i.invariant party knowns begun) (this_is_next c.loop-i.i) gathering log)

pub loop-i-preserved : goal.loop-i-preserved
loop-i-preserved g c = λ party knowns begun. c.in_ok-read_on.ensures.read party knowns (nothing_of c.args.files.now) 0 (nat_le c.loop-i.i) (nat_le (c.loop-i.i + 1)) (c.loop-i.invariant party knowns begun) (this_is_next c.loop-i.i) (this_is_done c.loop-i.i) (others_stay c.loop-i.i)

pub returns-clause-read : goal.returns-clause-read
returns-clause-read g c = λ party knowns begun. same_files party knowns c.loop-i.files c.loop-i.heads (nothing_of c.args.files.now) 0 (nat_le c.loop-i.i) (λ _. false) (c.loop-i.invariant party knowns begun) (λ k lt. all_are_done c.loop-i.i k (omega (arith, lt)))
