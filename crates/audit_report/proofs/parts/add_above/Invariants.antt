use Rattle.std.proofs.Common.{◌≡◌, take}
use Rattle.std.specs.List.{filter}
use Rattle.audit_model.specs.Mergings.{spelled}
use Rattle.audit_model.specs.Delayed.{is_below}
use Rattle.merge_runs.specs.Taken.{cursors_of}
use Rattle.audit_report.specs.inner.Parts.{ends}
use Rattle.audit_report.proofs.Splitting.{AreGoing}
use Rattle.audit_report.proofs.parts.add_above.Given as goal

abbrev pub invariant-loop-run : goal.invariant-loop-run
invariant-loop-run l = record {
  at : cursors_of l.taken ≡ ends (take l.run-index l.runs);
  going : AreGoing (cursors_of l.cut) (filter (is_below (cursors_of l.cut)) (spelled l.runs)) (take l.run-index l.runs) l.parts.items;
}
