use Rattle.std.proofs.Common.{◌≡◌, take}
use Rattle.merge_runs.specs.Taken.{cursors_of}
use Rattle.audit_report.specs.inner.Parts.{ends}
use Rattle.audit_report.proofs.Cutting.{IsCutting}
use Rattle.audit_report.proofs.cuts.cut_for.Given as goal

abbrev pub invariant-loop-run : goal.invariant-loop-run
invariant-loop-run l = record {
  at : cursors_of l.taken ≡ ends (take l.run-index l.runs);
  cutting : IsCutting l.session l.fn.log l.place (cursors_of l.taken) (cursors_of l.cut);
}
