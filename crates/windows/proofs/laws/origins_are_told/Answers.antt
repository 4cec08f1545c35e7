use Rattle.windows.proofs.Seen.{told}
use Rattle.windows.proofs.laws.origins_are_told.Goals as goal

pub returns : goal.returns
returns c = told
