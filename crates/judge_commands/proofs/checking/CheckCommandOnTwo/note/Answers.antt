use Rattle.judge_commands.proofs.checking.CheckCommandOnTwo.note.Goals as goal

pub returns-clause-told : goal.returns-clause-told
returns-clause-told g c = λ texts session cert. c.note_on.ensures.told texts.0 session
