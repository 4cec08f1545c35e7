use Rattle.recorder_files.proofs.Gaps.{count_more}
use Rattle.recorder_files.proofs.lacking.count_records.Goals as goal

pub loop-part-preserved : goal.loop-part-preserved
loop-part-preserved c = count_more c.args.parts.now c.loop-part.part-index c.loop-part.count c.max-count.result _ c.loop-part-test.true c.max-count.ensures c.loop-part.invariant
