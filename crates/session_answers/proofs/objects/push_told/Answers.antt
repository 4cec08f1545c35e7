use Rattle.session_answers.proofs.Standing.{apart_there, fault_there}
use Rattle.session_answers.proofs.objects.push_told.Goals as goal

pub push_topic-requires : goal.push_topic-requires
push_topic-requires g c = fault_there c.args.session.now c.args.report.now c.requires.0 c.args.told.now c.requires.1

pub push_apart-requires : goal.push_apart-requires
push_apart-requires g c = rw c.apart.ensures (apart_there c.args.session.now c.args.report.now c.requires.0 c.args.told.now c.requires.1)
