use Rattle.merge_runs.specs.inner.Replaying.{AreSized, HasRun}
use Rattle.merge_runs.proofs.replaying.run_log.Given as goal

abbrev pub invariant-loop-k : goal.invariant-loop-k
invariant-loop-k l = record {
  sized : AreSized l.session.geometry l.replaying;
  run : HasRun l.session l.log l.from l.k l.initial.replaying l.replaying;
}
