use Rattle.session_story.proofs.Circling.{is_stuck, is_left, goes_round_from}
use Rattle.session_story.proofs.waits.circle_of.Goals as goal

pub circle_from-requires-clause-stuck : goal.circle_from-requires-clause-stuck
circle_from-requires-clause-stuck c = is_stuck c.args.session.now c.args.left.now c.args.found.now c.requires.tied

pub circle_from-requires-clause-left : goal.circle_from-requires-clause-left
circle_from-requires-clause-left c = is_left c.args.session.now c.args.left.now c.args.found.now c.requires.tied

pub returns : goal.returns
returns c = goes_round_from c.args.session.now c.args.left.now c.args.found.now c.requires.tied c.circle_from.result c.circle_from.ensures
