use Rattle.std.proofs.Common.{subst}
use Rattle.recorder_files.specs.Parts.{AllFit}
use Rattle.session_commands.proofs.lacks.parts_of.Goals as goal

pub returns-in-Ok-clause-fit : goal.returns-in-Ok-clause-fit
returns-in-Ok-clause-fit c = subst AllFit c.as_slice.ensures.value c.in-Ok.ensures.fit
