use Rattle.guest_script.proofs.EventSteps.{live_begins, live_few}
use Rattle.guest_script.proofs.event_reader.EventPartsStages.goes_on.Goals as goal

pub returns-clause-begins : goal.returns-clause-begins
returns-clause-begins c = live_begins c.args._stage c.args.self.now.events c.requires

pub returns-clause-few : goal.returns-clause-few
returns-clause-few c = live_few c.args._stage c.args.self.now.events c.requires
