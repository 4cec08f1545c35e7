use Rattle.recordings.specs.Wide.{extent_of}
use Rattle.recorder_files.proofs.Visits.{met_nothing}
use Rattle.recorder_files.proofs.visiting.NamingVisitor.machine.Goals as goal

pub returns : goal.returns
returns c = met_nothing c.args.self.now c.args.machine.now.version (extent_of c.args.machine.now) c.requires.new
