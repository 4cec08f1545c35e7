use Rattle.recordings.specs.Wide.{init_of}
use Rattle.recorder_files.proofs.Visits.{met_init}
use Rattle.recorder_files.proofs.visiting.NamingVisitor.init.Goals as goal

pub returns : goal.returns
returns c = λ d before is. met_init c.args.self.now d (init_of c.args.page) is
