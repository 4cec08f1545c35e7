use Rattle.std.proofs.Common.{◌≡◌}
use Rattle.audit_model.specs.inner.PageFaultTests.{some_release}
use Rattle.plain_audit.proofs.faults.some_release.Given as goal

abbrev pub invariant-loop-n : goal.invariant-loop-n
invariant-loop-n l = l.found ≡ some_release l.session l.page l.n
