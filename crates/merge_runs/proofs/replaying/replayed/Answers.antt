use Rattle.std.proofs.Common.{refl}
use Rattle.audit_model.specs.Mergings.{spelled}
use Rattle.merge_runs.proofs.AllRuns.{replayed}
use Rattle.merge_runs.proofs.replaying.replayed.Goals as goal

pub returns : goal.returns
returns c =
    replayed c.args.session.now (spelled c.args.runs.now) c.run_all.new.replaying _ c.requires.merging c.in_ok-run_all.ensures.sized c.in_ok-run_all.ensures.run refl c.into_frames.ensures
