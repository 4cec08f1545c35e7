use Rattle.judged_texts.proofs.Headline.{headline_of}
use Rattle.judged_texts.proofs.checking.check_texts_by.Goals as goal

pub returns-clause-verdict : goal.returns-clause-verdict
returns-clause-verdict g c = c.check_read_by.ensures.verdict c.args.session.now c.args.cert.now c.in_ok-session.ensures c.in_ok-cert.ensures

pub returns-clause-headline : goal.returns-clause-headline
returns-clause-headline g c = headline_of c.args.session.now c.args.cert.now c.check_read_by.result c.headline_holds_at_yes.ensures (returns-clause-verdict g c)
