use Rattle.recorder_files.specs.inner.Heads.{IsLeastOf}
use Rattle.recorder_files.proofs.turns.least.Given as goal

abbrev pub invariant-loop-i : goal.invariant-loop-i
invariant-loop-i l = IsLeastOf l.heads l.i l.least
