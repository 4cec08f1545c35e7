use Rattle.std.proofs.Common.{◌≡◌}
use Rattle.audit_model.specs.Flat.{freed}
use Rattle.plain_audit.proofs.flat.is_freed.Given as goal

abbrev pub invariant-loop-n : goal.invariant-loop-n
invariant-loop-n l = l.freed ≡ freed l.session l.n l.page
