use Rattle.std.proofs.Common.{◌≡◌, false}
use Rattle.audit_model.specs.Shape.{earlier}
use Rattle.page_facts.specs.Tables.{some_before}
use Rattle.completeness.specs.Complete.{is_done_behind, takes_end}
use Rattle.completeness.proofs.ending.has_done.Given as goal

abbrev pub invariant-loop-n : goal.invariant-loop-n
invariant-loop-n l = (l.told ≡ earlier (takes_end l.session) l.session.source l.n) × (some_before (is_done_behind l.session) l.session.source l.n ≡ false)
