use Rattle.session_story.proofs.Firsts.{is_fault}
use Rattle.session_story.proofs.topics.first_fault_of.Goals as goal

pub story_of_fault-requires-clause-fault : goal.story_of_fault-requires-clause-fault
story_of_fault-requires-clause-fault c = is_fault c.args.session.now c.args.page.now.page c.in-Some.fault c.in-Some.ensures
