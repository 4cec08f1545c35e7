use Rattle.commands.proofs.answering.asked_two.Goals as goal

pub returns-in-Check-clause-told : goal.returns-in-Check-clause-told
returns-in-Check-clause-told g c = rw c.in-Check.is (rw c.extent_of.ensures at c.perform_two.ensures.told)

pub returns-in-Replay-clause-told : goal.returns-in-Replay-clause-told
returns-in-Replay-clause-told g c = rw c.in-Replay.is c.perform_two-in-Replay.ensures.told

pub returns-in-Steps-clause-told : goal.returns-in-Steps-clause-told
returns-in-Steps-clause-told g c = rw c.in-Steps.is c.perform_steps.ensures.told

pub returns-in-Explain-clause-told : goal.returns-in-Explain-clause-told
returns-in-Explain-clause-told g c = rw c.in-Explain.is (rw (c.story_form.ensures, c.extent_of-in-Explain.ensures) at c.perform_two-in-Explain.ensures.told)
