use Rattle.commands.proofs.WholeFolders.{shown_of_folders}
use Rattle.commands.proofs.folders.run_over_folders.Goals as goal

pub returns-clause-folders : goal.returns-clause-folders
returns-clause-folders g c = λ zero. shown_of_folders _ _ _ (c.run.ensures.headlines zero)
