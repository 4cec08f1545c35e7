use Rattle.std.proofs.Common.{sym, ◌∙◌}
use Rattle.session_story.proofs.Causing.{none_missing, not_placed, untouched, unused, used}
use Rattle.session_story.proofs.faults.missing_by.Goals as goal

pub returns-then-is_unplaced : goal.returns-then-is_unplaced
returns-then-is_unplaced c = not_placed c.args.session.now c.args.page.now.page c.args.page.now.found c.requires.found (sym c.is_unplaced.ensures ∙ c.if-is_unplaced.true)

pub returns-then-is_used_early : goal.returns-then-is_used_early
returns-then-is_used_early c = used c.args.session.now c.args.page.now.page c.args.page.now.found c.requires.found c.look_before-seen.result c.in-Some.place c.look_before-seen.ensures c.in-Some.is (sym c.is_used_early.ensures ∙ c.if-is_used_early.true)

pub returns-else-is_used_early : goal.returns-else-is_used_early
returns-else-is_used_early c = none_missing c.args.session.now c.args.page.now.page c.args.page.now.found c.requires.found (sym c.is_unplaced.ensures ∙ c.if-is_unplaced.false) (unused c.args.session.now c.args.page.now.page c.args.page.now.found c.requires.found c.look_before-seen.result c.look_before-seen.ensures (sym c.is_used_early.ensures ∙ c.if-is_used_early.false))

pub returns-in-None : goal.returns-in-None
returns-in-None c = none_missing c.args.session.now c.args.page.now.page c.args.page.now.found c.requires.found (sym c.is_unplaced.ensures ∙ c.if-is_unplaced.false) (untouched c.args.session.now c.args.page.now.page c.args.page.now.found c.requires.found c.in-None.is)
