use Rattle.std.proofs.Common.{sym, ap, ◌∙◌}
use Rattle.page_facts.specs.Judged.{releases_at}
use Rattle.session_story.proofs.Causing.{not_over, once, then_missing}
use Rattle.session_story.proofs.faults.given_right.Goals as goal

pub returns-else-page : goal.returns-else-page
returns-else-page c =
    let s = c.args.session.now in
    let t = c.args.page.now in
    let kept = ap (λ o. releases_at s o) (sym c.requires.story.found.touch) ∙ (sym c.requires.story.found.releases ∙ c.if-page.false) in
    then_missing s c.args._read t.page c.requires.right (once s c.args._read t.page c.args.place c.requires.first c.requires.gives) (not_over s c.args._read t.page kept) c.missing_by.result c.missing_by.ensures
