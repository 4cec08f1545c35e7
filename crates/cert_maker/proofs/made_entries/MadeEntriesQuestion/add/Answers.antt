use Rattle.std.proofs.Common.{◌+◌}
use Rattle.std.proofs.lemmas.Option.{MatchOption-at_some}
use Rattle.cert_maker.specs.Made.{AreMadeFrom, HasBarePage}
use Rattle.cert_maker.proofs.MorePages.{made_joined}
use Rattle.cert_maker.proofs.made_entries.MadeEntriesQuestion.add.Goals as goal

pub returns : goal.returns
returns c = λ s first count more low high.
    made_joined s first count more c.in-Some-made.entries.items c.in-Some.more.items c.append.new.self.items c.in_ok-append.ensures.items
    (MatchOption-at_some (HasBarePage s) (λ made. AreMadeFrom s first count made.items) c.in-Some-made.entries c.in-Some-made.is low)
    (MatchOption-at_some (HasBarePage s) (λ made. AreMadeFrom s (first + count) more made.items) c.in-Some.more c.in-Some.is high)
