use Rattle.std.proofs.Common.{◌≡◌, ◌+◌, length, rules}
use Rattle.postcopy_c.proofs.Joined.{measured_more}
use Rattle.postcopy_c.proofs.texts.Texts.push.Goals as goal

pub returns-clause-measured : goal.returns-clause-measured
returns-clause-measured c =
    let long : c.in_ok-end.end ≡ c.args.self.now.whole + length c.args.text.items = search rules in
    measured_more c.args.self.now _ c.args.text c.requires c.in_ok-push.ensures.items c.in_ok-push-2.ensures.items long
