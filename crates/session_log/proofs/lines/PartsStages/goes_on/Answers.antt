use Rattle.session_log.specs.inner.Steps.{draft_of}
use Rattle.session_log.proofs.Goes.{live_begins, live_few}
use Rattle.session_log.proofs.lines.PartsStages.goes_on.Goals as goal

pub returns-clause-begins : goal.returns-clause-begins
returns-clause-begins c = live_begins c.args._stage (draft_of c.args.self.now) c.requires

pub returns-clause-few : goal.returns-clause-few
returns-clause-few c = live_few c.args._stage (draft_of c.args.self.now) c.requires
