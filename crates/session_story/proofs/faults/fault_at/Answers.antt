use Rattle.std.proofs.Common.{ℕ, Some, sym, ap, ◌∙◌, subst}
use Rattle.session_story.specs.Pages.{IsPageStory}
use Rattle.session_story.proofs.Paged.{page_below}
use Rattle.session_story.proofs.faults.fault_at.Goals as goal

pub story_of-requires : goal.story_of-requires
story_of-requires c = page_below c.args.session.now c.keeps_limits.ensures (c.args.fault.now.log, c.args.fault.now.place) c.args.fault.now.page c.requires.of

pub story_of_fault-requires-clause-of : goal.story_of_fault-requires-clause-of
story_of_fault-requires-clause-of c = c.requires.of ∙ ap (λ (p : ℕ). Some p) (sym c.in_ok-story.ensures.page_is)

pub story_of_fault-requires-clause-story : goal.story_of_fault-requires-clause-story
story_of_fault-requires-clause-story c = subst (λ (p : ℕ). IsPageStory c.args.session.now p c.in_ok-story.story) (sym c.in_ok-story.ensures.page_is) c.in_ok-story.ensures
