use Rattle.cert_check.specs.inner.FaultsUpTo.{AreFaultsUpTo}
use Rattle.cert_check.specs.inner.Passes.{IsAt}
use Rattle.cert_check.proofs.log_passes.push_found.Given as goal

abbrev pub invariant-loop-n : goal.invariant-loop-n
invariant-loop-n l = record {
  at : IsAt l.session l.log l.n l.pass;
  found : AreFaultsUpTo l.session l.log l.n l.found.items;
}
