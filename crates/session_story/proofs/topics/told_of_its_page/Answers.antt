use Rattle.std.proofs.Common.{sym, ◌∙◌}
use Rattle.session_story.proofs.Reaching.{within_below}
use Rattle.session_story.proofs.topics.told_of_its_page.Goals as goal

pub page_told-requires-clause-page : goal.page_told-requires-clause-page
page_told-requires-clause-page c = within_below c.args.session.now c.keeps_limits.ensures 5 (c.args.log, c.args.place) c.in-Some.page (sym c.page_of.ensures ∙ c.in-Some.is)
