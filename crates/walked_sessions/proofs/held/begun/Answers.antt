use Rattle.recordings.specs.Wide.{extent_of}
use Rattle.walked_sessions.proofs.held.begun.Goals as goal

pub returns : goal.returns
returns c = c.in_ok-new.ensures c.args.machine.now.version (extent_of c.args.machine.now) c.in-Some.ensures
