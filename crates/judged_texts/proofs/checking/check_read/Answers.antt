use Rattle.judged_texts.proofs.Headline.{headline_of}
use Rattle.judged_texts.proofs.checking.check_read.Goals as goal

pub returns-clause-one_session : goal.returns-clause-one_session
returns-clause-one_session g c = λ first second session cert answered. (headline_of first second c.check_read_by.result c.headline_holds_at_yes.ensures (c.check_read_by.ensures.verdict first second session cert) answered).one_session

pub returns-clause-safe : goal.returns-clause-safe
returns-clause-safe g c = λ first second session cert answered. (headline_of first second c.check_read_by.result c.headline_holds_at_yes.ensures (c.check_read_by.ensures.verdict first second session cert) answered).safe

pub returns-clause-replays_clean : goal.returns-clause-replays_clean
returns-clause-replays_clean g c = λ first second session cert answered. (headline_of first second c.check_read_by.result c.headline_holds_at_yes.ensures (c.check_read_by.ensures.verdict first second session cert) answered).replays_clean

pub returns-clause-has_merging : goal.returns-clause-has_merging
returns-clause-has_merging g c = λ first second session cert answered. (headline_of first second c.check_read_by.result c.headline_holds_at_yes.ensures (c.check_read_by.ensures.verdict first second session cert) answered).has_merging

pub returns-clause-finds_resident : goal.returns-clause-finds_resident
returns-clause-finds_resident g c = λ first second session cert answered. (headline_of first second c.check_read_by.result c.headline_holds_at_yes.ensures (c.check_read_by.ensures.verdict first second session cert) answered).finds_resident

pub returns-clause-reads_flat : goal.returns-clause-reads_flat
returns-clause-reads_flat g c = λ first second session cert answered. (headline_of first second c.check_read_by.result c.headline_holds_at_yes.ensures (c.check_read_by.ensures.verdict first second session cert) answered).reads_flat

pub returns-clause-placed_once : goal.returns-clause-placed_once
returns-clause-placed_once g c = λ first second session cert answered. (headline_of first second c.check_read_by.result c.headline_holds_at_yes.ensures (c.check_read_by.ensures.verdict first second session cert) answered).placed_once

pub returns-clause-placed_untouched : goal.returns-clause-placed_untouched
returns-clause-placed_untouched g c = λ first second session cert answered. (headline_of first second c.check_read_by.result c.headline_holds_at_yes.ensures (c.check_read_by.ensures.verdict first second session cert) answered).placed_untouched

pub returns-clause-released_as_zeros : goal.returns-clause-released_as_zeros
returns-clause-released_as_zeros g c = λ first second session cert answered. (headline_of first second c.check_read_by.result c.headline_holds_at_yes.ensures (c.check_read_by.ensures.verdict first second session cert) answered).released_as_zeros
