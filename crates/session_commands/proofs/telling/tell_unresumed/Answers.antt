use Rattle.session_commands.proofs.telling.tell_unresumed.Goals as goal

pub returns-clause-silent : goal.returns-clause-silent
returns-clause-silent g c = λ s facts never. absurd (never _ ((c.unresumed.ensures s facts _).0 c.in-Some.is))
