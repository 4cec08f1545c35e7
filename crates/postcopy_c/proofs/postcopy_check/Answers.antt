use Rattle.postcopy_c.proofs.postcopy_check.Goals as goal

pub returns-clause-replays_clean : goal.returns-clause-replays_clean
returns-clause-replays_clean c = λ yes. c.check_texts_alone.ensures.replays_clean (c.verdict_answer.ensures.only_yes yes)

pub returns-clause-finds_resident : goal.returns-clause-finds_resident
returns-clause-finds_resident c = λ yes. c.check_texts_alone.ensures.finds_resident (c.verdict_answer.ensures.only_yes yes)

pub returns-clause-reads_flat : goal.returns-clause-reads_flat
returns-clause-reads_flat c = λ yes. c.check_texts_alone.ensures.reads_flat (c.verdict_answer.ensures.only_yes yes)

pub returns-clause-placed_untouched : goal.returns-clause-placed_untouched
returns-clause-placed_untouched c = λ yes. c.check_texts_alone.ensures.placed_untouched (c.verdict_answer.ensures.only_yes yes)
