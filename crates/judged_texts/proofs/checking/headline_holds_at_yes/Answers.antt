use Rattle.judged_texts.proofs.Headline.{headline_at_yes}
use Rattle.judged_texts.proofs.checking.headline_holds_at_yes.Goals as goal

pub returns : goal.returns
returns c = headline_at_yes c.session_texts_are_unambiguous.ensures c.cert_texts_are_unambiguous.ensures c.certified_is_safe.ensures.migrated
