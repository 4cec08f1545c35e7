use Rattle.recorder_files.specs.Lacks.{lacks}
use Rattle.recorder_files.proofs.Gaps.{lacks_more}
use Rattle.recorder_files.proofs.lacking.find_lacks.Goals as goal

pub loop-at-preserved : goal.loop-at-preserved
loop-at-preserved c = lacks_more c.args.parts.now c.loop-at.lacks.items c.push_lacks.new.lacks.items (lacks c.args.parts.now) c.loop-at.at c.loop-at-test.true c.in_ok-push_lacks.ensures c.loop-at.invariant
