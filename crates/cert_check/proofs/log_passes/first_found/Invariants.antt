use Rattle.cert_check.specs.inner.FirstOfLog.{IsRightBelow}
use Rattle.cert_check.specs.inner.Passes.{IsAt}
use Rattle.cert_check.proofs.log_passes.first_found.Given as goal

abbrev pub invariant-loop-n : goal.invariant-loop-n
invariant-loop-n l = record {
  at : IsAt l.session l.log l.n l.pass;
  right : IsRightBelow l.session l.log l.n;
}
