use Rattle.guest_script.proofs.EventSteps.{events_unambiguous}
use Rattle.guest_script.proofs.event_texts_are_unambiguous.Goals as goal

pub returns : goal.returns
returns c = events_unambiguous
