use Rattle.std.proofs.Common.{sym, ◌∙◌}
use Rattle.session_story.proofs.Causing.{is_it}
use Rattle.session_story.proofs.faults.given_by.Goals as goal

pub given_first-requires-clause-first : goal.given_first-requires-clause-first
given_first-requires-clause-first c = sym c.requires.story.found.placement ∙ is_it c.args.page.now.found.placement c.args.giver (sym c.is_number.ensures ∙ c.if-is_number.true)
