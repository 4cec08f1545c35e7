use Rattle.session_story.proofs.ApartWindows.{apart_window}
use Rattle.session_story.proofs.apart_laws.apart_pages_stand.Goals as goal

pub returns : goal.returns
returns c = apart_window
