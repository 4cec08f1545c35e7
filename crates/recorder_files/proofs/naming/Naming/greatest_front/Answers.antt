use Rattle.recorder_files.proofs.Narrowing.{greatest_of_all, no_more_than_all}
use Rattle.recorder_files.proofs.naming.Naming.greatest_front.Goals as goal

pub returns : goal.returns
returns c = λ s is. greatest_of_all s c.counts.result c.front_within.result (c.counts.ensures s is) (c.front_within.ensures s is (no_more_than_all s c.counts.result (c.counts.ensures s is)))
