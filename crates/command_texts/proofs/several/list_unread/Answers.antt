use Rattle.text_access.proofs.Fronts.{front_gains}
use Rattle.command_texts.proofs.several.list_unread.Goals as goal

pub returns-in-File-clause-told : goal.returns-in-File-clause-told
returns-in-File-clause-told g c = (c.tell.ensures.status, (c.in-File.why.now, c.tell.ensures.told))

pub returns-in-File-clause-gains : goal.returns-in-File-clause-gains
returns-in-File-clause-gains g c = front_gains _ _ _ c.tell.ensures.told
