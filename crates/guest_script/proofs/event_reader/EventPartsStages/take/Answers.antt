use Rattle.guest_script.proofs.EventSteps.{taken, refused, still_live, still_held}
use Rattle.guest_script.proofs.event_reader.EventPartsStages.take.Goals as goal

pub returns-clause-ok : goal.returns-clause-ok
returns-clause-ok c = taken c.args.stage c.args.self.now.events c.take_event_line.new.events c.args.line.now c.take_event_line.result c.take_event_line.ensures

pub returns-clause-refused : goal.returns-clause-refused
returns-clause-refused c = refused c.args.stage c.args.self.now.events c.take_event_line.new.events c.args.line.now c.take_event_line.result c.requires c.take_event_line.ensures

pub returns-clause-err_live : goal.returns-clause-err_live
returns-clause-err_live c = still_live c.args.stage c.args.self.now.events c.take_event_line.new.events c.args.line.now c.take_event_line.result c.requires c.take_event_line.ensures

pub returns-clause-err : goal.returns-clause-err
returns-clause-err c = still_held c.args.stage c.args.self.now.events c.take_event_line.new.events c.args.line.now c.take_event_line.result c.take_event_line.ensures
