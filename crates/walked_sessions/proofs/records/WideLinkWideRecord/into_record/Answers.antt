use Rattle.std.proofs.Common.{ap}
use Rattle.migration_types.specs.declared.records.LinkRec.TheVariants as link
use Rattle.recordings.specs.declared.wide.WideLink.TheVariants as wide
use Rattle.recordings.specs.Wide.{link_of}
use Rattle.walked_sessions.specs.Fitting.{LinkFits}
use Rattle.walked_sessions.proofs.Found.{named, IsBelow}
use Rattle.walked_sessions.proofs.records.WideLinkWideRecord.into_record.Goals as goal

pub returns-in_ok-sending-in-Down : goal.returns-in_ok-sending-in-Down
returns-in_ok-sending-in-Down c =
    let at = c.in_ok-sending-in-Down.ensures.0 in
    named link_of LinkFits c.args._machine c.args.self (wide.Down c.in-Down.sending) (link.Down c.in_ok-sending-in-Down.sending) c.number.result IsBelow c.in-Down.sending c.in_ok-sending-in-Down.sending c.in-Down.is (ap link.Down at) at (λ version size. (λ h. h, λ h. h)) c.number.ensures

pub returns-in_ok-asking-in-Up : goal.returns-in_ok-asking-in-Up
returns-in_ok-asking-in-Up c =
    let at = c.in_ok-asking-in-Up.ensures.0 in
    named link_of LinkFits c.args._machine c.args.self (wide.Up c.in-Up.asking) (link.Up c.in_ok-asking-in-Up.asking) c.number-in-Up.result IsBelow c.in-Up.asking c.in_ok-asking-in-Up.asking c.in-Up.is (ap link.Up at) at (λ version size. (λ h. h, λ h. h)) c.number-in-Up.ensures
