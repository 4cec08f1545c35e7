use Rattle.postcopy_c.proofs.Shown.{told_one}
use Rattle.postcopy_c.proofs.showing.tell_shown.Goals as goal

pub returns-clause-told : goal.returns-clause-told
returns-clause-told c = told_one c.args.shown_as c.args.session.now c.args.room.now _ c.tell_all.result _ _ c.tell_all.ensures.told
