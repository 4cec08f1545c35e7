use Rattle.judge_commands.proofs.explaining.ExplainByTableOnTwo.note.Goals as goal

pub returns-clause-told : goal.returns-clause-told
returns-clause-told g c = λ texts session table. c.note_on.ensures.told texts.0 session
