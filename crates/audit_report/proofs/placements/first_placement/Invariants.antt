use Rattle.std.proofs.Common.{◌≡◌, false}
use Rattle.audit_model.specs.Shape.{is_placement_of, earlier}
use Rattle.audit_report.proofs.placements.first_placement.Given as goal

abbrev pub invariant-loop-n : goal.invariant-loop-n
invariant-loop-n l = earlier (is_placement_of l.page) l.session.pager l.n ≡ false
