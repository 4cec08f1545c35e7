use Rattle.std.proofs.Common.{◌≡◌, length, subst, arith}
use Rattle.recorder_files.specs.inner.Heads.{IsLeastOf}
use Rattle.recorder_files.proofs.InTurn.{least_read}
use Rattle.recorder_files.proofs.turns.least.Goals as goal

pub loop-i-preserved : goal.loop-i-preserved
loop-i-preserved c = least_read c.args.heads.now c.loop-i.i c.loop-i.least _ c.lower-least.result c.loop-i-test.true c.lower-least.ensures c.loop-i.invariant

pub returns : goal.returns
returns c = let e : c.loop-i.i ≡ length c.args.heads.now = omega arith in subst (λ n. IsLeastOf c.args.heads.now n c.loop-i.least) e c.loop-i.invariant
