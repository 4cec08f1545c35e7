use Rattle.guest_script.specs.declared.event_steps.EventStage.TheVariants.{Count}
use Rattle.guest_script.proofs.EventSteps.{live_at, count_taken}
use Rattle.guest_script.proofs.event_steps.take_event_line.Goals as goal

pub returns-in_ok-announce-in-Count : goal.returns-in_ok-announce-in-Count
returns-in_ok-announce-in-Count c =
    let found = c.in_ok-announce-in-Count.ensures.found in
    rw c.in-Count.is (count_taken c.args.events.now c.announce.new.self c.args.line.now (live_at c.args.stage Count c.args.events.now c.in-Count.is c.requires) found.0 found.1 found.2)
