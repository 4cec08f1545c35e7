use Rattle.std.proofs.Common.{◌≡◌, take}
use Rattle.merge_runs.specs.Taken.{cursors_of}
use Rattle.audit_report.specs.inner.Parts.{ends, AreBelow}
use Rattle.audit_report.proofs.parts.below_parts.Given as goal

abbrev pub invariant-loop-run : goal.invariant-loop-run
invariant-loop-run l = record {
  at : cursors_of l.taken ≡ ends (take l.run-index l.runs);
  below : AreBelow (cursors_of l.cut) (take l.run-index l.runs) l.parts.items;
}
