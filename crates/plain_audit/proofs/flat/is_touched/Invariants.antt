use Rattle.std.proofs.Common.{◌≡◌}
use Rattle.audit_model.specs.Worlds.{touched}
use Rattle.plain_audit.proofs.flat.is_touched.Given as goal

abbrev pub invariant-loop-n : goal.invariant-loop-n
invariant-loop-n l = l.touched ≡ touched l.session l.n l.page
