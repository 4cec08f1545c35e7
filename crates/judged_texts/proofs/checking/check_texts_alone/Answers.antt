use Rattle.judged_texts.proofs.checking.check_texts_alone.Goals as goal

pub returns-clause-replays_clean : goal.returns-clause-replays_clean
returns-clause-replays_clean c = λ answered. (c.check_texts_by.ensures.headline answered).replays_clean

pub returns-clause-finds_resident : goal.returns-clause-finds_resident
returns-clause-finds_resident c = λ answered. (c.check_texts_by.ensures.headline answered).finds_resident

pub returns-clause-reads_flat : goal.returns-clause-reads_flat
returns-clause-reads_flat c = λ answered. (c.check_texts_by.ensures.headline answered).reads_flat

pub returns-clause-placed_untouched : goal.returns-clause-placed_untouched
returns-clause-placed_untouched c = λ answered. (c.check_texts_by.ensures.headline answered).placed_untouched
