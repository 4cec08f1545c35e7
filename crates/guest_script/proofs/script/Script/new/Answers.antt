use Rattle.guest_script.proofs.Faults.{none_with_fault}
use Rattle.guest_script.proofs.script.Script.new.Goals as goal

pub returns-in-Some-clause-refused : goal.returns-in-Some-clause-refused
returns-in-Some-clause-refused c = none_with_fault c.args.scenario c.in-Some.fault c.in-Some.ensures
