use Rattle.merge_runs.proofs.OneMore.{run_more}
use Rattle.merge_runs.proofs.replaying.run_log.Goals as goal

pub loop-k-preserved : goal.loop-k-preserved
loop-k-preserved c =
    let step = c.in_ok-step.ensures in
    record {
      sized = step.sized;
      run = run_more c.args.session.now c.args.log c.args.from c.loop-k.k c.args.replaying.now c.loop-k.replaying c.step.new.replaying c.loop-k.invariant.run step.one;
    }
