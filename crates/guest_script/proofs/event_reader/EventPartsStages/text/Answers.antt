use Rattle.std.proofs.Common.{refl}
use Rattle.guest_script.specs.inner.EventHeld.{events_held}
use Rattle.guest_script.proofs.EventSteps.{live_not_whole}
use Rattle.guest_script.proofs.event_reader.EventPartsStages.text.Goals as goal

pub returns-in_default : goal.returns-in_default
returns-in_default c =
    let events = c.args.self.events in
    record { found = tt; none = live_not_whole c.args.stage events (events_held c.args.stage events) refl c.requires c.in_default.not-Done }
