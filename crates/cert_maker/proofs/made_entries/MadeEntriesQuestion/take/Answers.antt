use Rattle.std.proofs.lemmas.Option.{MatchOption-at_some}
use Rattle.cert_maker.specs.Made.{AreMadeFrom, HasBarePage}
use Rattle.cert_maker.proofs.MorePages.{made_more}
use Rattle.cert_maker.proofs.made_entries.MadeEntriesQuestion.take.Goals as goal

pub returns-in_ok-push-in-Some-made_entry : goal.returns-in_ok-push-in-Some-made_entry
returns-in_ok-push-in-Some-made_entry c = λ first count here old.
    let s = c.args.session.now in
    let made = MatchOption-at_some (HasBarePage s) (λ made. AreMadeFrom s first count made.items) c.in-Some.entries c.in-Some.is old in
    made_more s first count c.args.page c.in-Some.entries.items c.push.new.self.items c.in-Some-made_entry.entry c.in_ok-push-in-Some-made_entry.ensures.items here made c.in-Some-made_entry.ensures
