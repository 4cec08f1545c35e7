use Rattle.std.proofs.Common.{◌≡◌, ◌++◌, drop}
use Rattle.std.specs.List.{flat_map}
use Rattle.audit_model.specs.Reasons.{page_reasons}
use Rattle.session_answers.specs.KindsText.{kind_of}
use Rattle.session_answers.proofs.kinds.kinds_of.Given as goal

abbrev pub invariant-loop-reason : goal.invariant-loop-reason
invariant-loop-reason g l = l.told.items ++ flat_map (kind_of (g.L.Lines.tell l.lines) l.session l.kinds) (drop l.reason-index l.reason-items) ≡ flat_map (kind_of (g.L.Lines.tell l.lines) l.session l.kinds) page_reasons
